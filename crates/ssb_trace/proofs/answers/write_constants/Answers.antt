use Rattle.std.proofs.Common.{◌≡◌, List, Bool, true, false, [], refl, ap, sym, ◌∙◌}
use Rattle.std.specs.Prelude.{IsTrue, if◌then◌else◌}
use Rattle.ssb_questions.specs.Queries.{standard_constants}
use Rattle.ssb_questions.specs.QuestionEq.{question_eq}
use Rattle.ssb_questions.specs.declared.query.Query.{Query}
use Rattle.ssb_questions.specs.declared.value.Value.{Value}
use Rattle.ssb_questions.proofs.QuestionLaws.{question_Decides}
use Rattle.ssb_trace.specs.TraceText.{written_constants}
use Rattle.ssb_trace.proofs.answers.write_constants.Goals as goal

-- constants that are not those where none are given are written
not_standard : (question : Query × List Value) (b : Bool) → (question.1 ≡ standard_constants question.0 → IsTrue b)
    → b ≡ false → written_constants question ≡ question.1
not_standard question b tells is = cases (question_eq question (question.0, standard_constants question.0)) refl
  where
    cases : (e : Bool) → question_eq question (question.0, standard_constants question.0) ≡ e
        → written_constants question ≡ question.1
    cases true same =
        let equal = (question_Decides question (question.0, standard_constants question.0)).0 same in
        let impossible : false ≡ true = sym is ∙ tells (ap (λ (q : Query × List Value). q.1) equal) in
        cc
    cases false other = ap (λ e. if e then [] else question.1) other

pub returns : goal.returns
returns g c =
    let question = c.args.question.now in
    let written : written_constants question ≡ c.constants.result.now =
    not_standard question c.is_standard.result c.is_standard.ensures.1 c.if-is_standard.false
    ∙ sym c.constants.ensures.constants in
    rw written c.write_after_bars.ensures
