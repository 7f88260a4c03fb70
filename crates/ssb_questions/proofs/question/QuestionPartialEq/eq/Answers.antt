use Rattle.std.proofs.Common.{rules, ◌≡◌, ◌∙◌, sym}
use Rattle.ssb_questions.proofs.QuestionLaws.{question_Decides}
use Rattle.ssb_questions.specs.QuestionEq.{question_eq}
use Rattle.ssb_questions.proofs.question.QuestionPartialEq.eq.Goals as goal

pub returns-then-eq-clause-same : goal.returns-then-eq-clause-same
returns-then-eq-clause-same c =
    let decides = question_Decides c.args.self.now c.args.other.now in
    let is : c.eq-then-eq.result ≡ question_eq c.args.self.now c.args.other.now = search rules in
    (λ t. decides.0 (sym is ∙ t), λ e. is ∙ decides.1 e)
