use Rattle.std.proofs.Common.{rules, ◌≡◌, ◌∙◌, sym}
use Rattle.ssb_answers.specs.AnswerEq.{answer_eq}
use Rattle.ssb_answers.specs.AnswerEqLaws.{answer_Decides}
use Rattle.ssb_answers.proofs.answer.AnswerPartialEq.eq.Goals as goal

pub returns-then-at-other_at-clause-same : goal.returns-then-at-other_at-clause-same
returns-then-at-other_at-clause-same c =
    let decides = answer_Decides c.args.self.now c.args.other.now in
    let is : c.eq-then-at-other_at.result ≡ answer_eq c.args.self.now c.args.other.now = search rules in
    (λ t. decides.0 (sym is ∙ t), λ e. is ∙ decides.1 e)

pub returns-else-at-other_at-clause-same : goal.returns-else-at-other_at-clause-same
returns-else-at-other_at-clause-same c =
    let decides = answer_Decides c.args.self.now c.args.other.now in
    let is : c.if-eq.value ≡ answer_eq c.args.self.now c.args.other.now = search rules in
    (λ t. decides.0 (sym is ∙ t), λ e. is ∙ decides.1 e)

pub returns-then-eq-2-clause-same : goal.returns-then-eq-2-clause-same
returns-then-eq-2-clause-same c =
    let decides = answer_Decides c.args.self.now c.args.other.now in
    let is : c.eq-then-eq-2.result ≡ answer_eq c.args.self.now c.args.other.now = search rules in
    (λ t. decides.0 (sym is ∙ t), λ e. is ∙ decides.1 e)

pub returns-else-eq-2-clause-same : goal.returns-else-eq-2-clause-same
returns-else-eq-2-clause-same c =
    let decides = answer_Decides c.args.self.now c.args.other.now in
    let is : c.eq-in-Unserved-Unserved.result ≡ answer_eq c.args.self.now c.args.other.now = search rules in
    (λ t. decides.0 (sym is ∙ t), λ e. is ∙ decides.1 e)
