use Rattle.std.proofs.Common.{◌≡◌, ◌∙◌, IfOk, subst}
use Rattle.query_command.specs.Reported.{answers_over}
use Rattle.query_command.proofs.query.asked_answers.Goals as goal

pub returns : goal.returns
returns g c =
    subst
    (λ questions. IfOk c.opening_answers.result (λ answers. answers.items
    ≡ answers_over c.args.sourced.base c.args.sourced.after questions))
    (c.as_slice.ensures.value ∙ c.in_ok-questions.ensures) c.opening_answers.ensures
