use Rattle.ssb_questions.proofs.ClauseLaws.{gives, gives_none}
use Rattle.ssb_questions.specs.ClauseSaid.{said}
use Rattle.ssb_questions.specs.Star as spec
use Rattle.ssb_questions.proofs.star.numbers_out.Goals as goal
use Rattle.ssb_questions.proofs.star.numbers_out.Goals.{in-Some+in_ok-push, in_default}

pub loop-clause-preserved : goal.loop-clause-preserved
loop-clause-preserved c =
    let xs = c.args.clauses.now in
    let i = c.loop-clause.clause-index in
    elim c.match-number_out.branch [
      | in-Some+in_ok-push w ↦
          let one = gives (spec.number_out c.args.column) said xs i _ w.in-Some.number c.loop-clause-test.true w.in-Some.ensures in
          cc (one, w.numbers-is, w.in_ok-push.ensures.items, c.loop-clause.invariant)
      | in_default w ↦
          let none = gives_none (spec.number_out c.args.column) said xs i _ c.loop-clause-test.true w.in_default.ensures in
          cc (none, w.numbers-is, c.loop-clause.invariant)
    ]
