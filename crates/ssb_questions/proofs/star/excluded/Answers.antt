use Rattle.std.proofs.Common.{◌∙◌, map, sym}
use Rattle.ssb_questions.proofs.ClauseLaws.{gives_of, gives_none_of}
use Rattle.ssb_questions.specs.ClauseSaid.{said}
use Rattle.ssb_questions.specs.Star as spec
use Rattle.ssb_questions.proofs.star.excluded.Goals as goal
use Rattle.ssb_questions.proofs.star.excluded.Goals.{in-Some+in_ok-push, in_default}

pub loop-column-preserved : goal.loop-column-preserved
loop-column-preserved c =
    let xs = c.args.columns.now in
    let i = c.loop-column.column-index in
    let test = spec.exclusion_test (map said c.args.clauses.now) in
    elim c.match-branch-2.branch [
      | in-Some+in_ok-push w ↦
          let one = gives_of test xs i _ w.in-Some.test c.loop-column-test.true
          (sym w.in-Some.is ∙ c.in_ok-test.ensures) in
          cc (one, w.tests-is, w.in_ok-push.ensures.items, c.loop-column.invariant)
      | in_default w ↦
          let none = gives_none_of test xs i _ c.loop-column-test.true (sym w.in_default.is ∙ c.in_ok-test.ensures) in
          cc (none, w.tests-is, c.loop-column.invariant)
    ]
