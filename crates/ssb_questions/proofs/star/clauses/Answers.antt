use Rattle.std.proofs.Common.{◌∙◌, [], ◌∷◌, ap}
use Rattle.std.proofs.lemmas.List.{map-append}
use Rattle.ssb_questions.proofs.ClauseLaws.{gives_of, gives_none_of}
use Rattle.ssb_questions.specs.Clauses.{clause_said}
use Rattle.ssb_questions.specs.ClauseSaid.{said}
use Rattle.ssb_questions.proofs.star.clauses.Goals as goal
use Rattle.ssb_questions.proofs.star.clauses.Goals.{in-Some+in_ok-push, in_default}

pub loop-constant-preserved : goal.loop-constant-preserved
loop-constant-preserved c =
    let xs = c.args.constants.now in
    let i = c.loop-constant.constant-index in
    let item = c.constant-item.result in
    elim c.match-said_by.branch [
      | in-Some+in_ok-push w ↦
          let one = gives_of clause_said xs i item (said w.in-Some.clause) c.loop-constant-test.true
          (w.in-Some.ensures ∙ ap clause_said c.constant-item.is) in
          let joined = map-append said c.loop-constant.found.items (w.in-Some.clause ∷ []) in
          cc (one, joined, w.found-is, w.in_ok-push.ensures.items, c.loop-constant.invariant)
      | in_default w ↦
          let none = gives_none_of clause_said xs i item c.loop-constant-test.true
          (w.in_default.ensures ∙ ap clause_said c.constant-item.is) in
          cc (none, w.found-is, c.loop-constant.invariant)
    ]
