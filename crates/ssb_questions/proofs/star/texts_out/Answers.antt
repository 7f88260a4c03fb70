use Rattle.ssb_questions.proofs.ClauseLaws.{gives, gives_none}
use Rattle.ssb_questions.specs.ClauseSaid.{said}
use Rattle.ssb_questions.specs.Star as spec
use Rattle.ssb_questions.proofs.star.texts_out.Goals as goal
use Rattle.ssb_questions.proofs.star.texts_out.Goals.{in-Some+in_ok-from_str+in_ok-push, in_default}

pub loop-clause-preserved : goal.loop-clause-preserved
loop-clause-preserved c =
    let xs = c.args.clauses.now in
    let i = c.loop-clause.clause-index in
    let text = spec.text_out c.args.column in
    elim c.match-text_out.branch [
      | in-Some+in_ok-from_str+in_ok-push w ↦
          let one = gives text said xs i _ w.in-Some.text.now c.loop-clause-test.true w.in-Some.ensures in
          cc (one, w.texts-is, w.in_ok-push.ensures.items, w.in_ok-from_str.ensures, c.loop-clause.invariant)
      | in_default w ↦
          let none = gives_none text said xs i _ c.loop-clause-test.true w.in_default.ensures in
          cc (none, w.texts-is, c.loop-clause.invariant)
    ]
