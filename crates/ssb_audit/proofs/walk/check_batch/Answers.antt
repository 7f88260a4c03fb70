use Rattle.std.proofs.Common.{◌∙◌, length, ap, subst}
use Rattle.shared_scan.specs.Answers.{answers_after}
use Rattle.ssb_audit.specs.Visits.{IsFirstOther}
use Rattle.ssb_audit.proofs.WalkLaws.{wrong_from_other}
use Rattle.ssb_audit.proofs.walk.check_batch.Goals as goal

pub returns : goal.returns
returns g c history stands =
    let answers = c.args.answers.now in
    let visits = c.args.visits.now in
    let found = c.in_ok-found.found.items in
    let first = subst (λ rows. IsFirstOther answers visits rows (length visits) c.args.limit c.first_other.result)
    c.as_slice-2.ensures.value c.first_other.ensures in
    wrong_from_other c.args.columns.now.base history answers visits c.in_ok-questions.questions.items found c.args.limit
    c.first_other.result c.in_ok-questions.ensures
    (c.in_ok-found.ensures.answers history stands ∙ ap (answers_after c.args.columns.now.base history) c.as_slice.ensures.value)
    first
