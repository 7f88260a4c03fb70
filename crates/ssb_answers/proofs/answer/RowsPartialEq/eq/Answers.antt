use Rattle.std.proofs.Common.{rules, ◌≡◌, ◌∙◌, sym}
use Rattle.ssb_answers.specs.AnswerEq.{rows_eq}
use Rattle.ssb_answers.specs.AnswerEqLaws.{rows_Decides}
use Rattle.ssb_answers.proofs.answer.RowsPartialEq.eq.Goals as goal

pub returns-then-eq-clause-same : goal.returns-then-eq-clause-same
returns-then-eq-clause-same c =
    let decides = rows_Decides c.args.self.now c.args.other.now in
    let is : c.eq-then-eq.result ≡ rows_eq c.args.self.now c.args.other.now = search rules in
    (λ t. decides.0 (sym is ∙ t), λ e. is ∙ decides.1 e)
