use Rattle.std.proofs.Common.{rules, ◌≡◌, ◌∙◌, sym}
use Rattle.ssb_answers.specs.AnswerEq.{row_eq}
use Rattle.ssb_answers.specs.AnswerEqLaws.{row_Decides}
use Rattle.ssb_answers.proofs.answer.ResultRowPartialEq.eq.Goals as goal

pub returns-then-eq-clause-same : goal.returns-then-eq-clause-same
returns-then-eq-clause-same c =
    let decides = row_Decides c.args.self.now c.args.other.now in
    let is : c.eq-then-eq.result ≡ row_eq c.args.self.now c.args.other.now = search rules in
    (λ t. decides.0 (sym is ∙ t), λ e. is ∙ decides.1 e)

pub returns-else-eq-clause-same : goal.returns-else-eq-clause-same
returns-else-eq-clause-same c =
    let decides = row_Decides c.args.self.now c.args.other.now in
    let is : c.eq.result ≡ row_eq c.args.self.now c.args.other.now = search rules in
    (λ t. decides.0 (sym is ∙ t), λ e. is ∙ decides.1 e)
