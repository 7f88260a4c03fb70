-- Equal answers: the same question and, part by part, the same rows or the same cause.
use Rattle.std.specs.Prelude.{Bool, true, false, ◌&&◌, nat_eq}
use Rattle.std.specs.Cmp.Lexicographic.{pointwise}
use Rattle.std.specs.Option.{option_eq}
use Rattle.std.specs.Ordering.{eq_by_cmp, int_eq}
use Rattle.ssb_questions.specs.QuestionEq.{question_eq}
use Rattle.ssb_questions.specs.Value.{value_cmp}
use Rattle.ssb_answers.specs.declared.answer.Answer.{Answer}
use Rattle.ssb_answers.specs.declared.answer.Answer.TheVariants as answer
use Rattle.ssb_answers.specs.declared.answer.ResultRow.{ResultRow}
use Rattle.ssb_answers.specs.declared.answer.Rows.{Rows}
use Rattle.ssb_answers.specs.declared.answer.Unserved.{Unserved}
use Rattle.ssb_answers.specs.declared.answer.Unserved.TheVariants.{OutOfMemory, Twin}

abbrev pub row_eq : ResultRow → ResultRow → Bool
row_eq a b = pointwise (eq_by_cmp value_cmp) a.groups b.groups && option_eq int_eq a.sum b.sum

abbrev pub rows_eq : Rows → Rows → Bool
rows_eq a b = question_eq a.question b.question && pointwise row_eq a.list b.list

abbrev pub cause_eq : Unserved → Unserved → Bool
cause_eq OutOfMemory OutOfMemory = true
cause_eq (Twin told found) (Twin other_told other_found) = nat_eq told other_told && nat_eq found other_found
cause_eq _ _ = false

abbrev pub answer_eq : Answer → Answer → Bool
answer_eq (answer.Rows question at rows) (answer.Rows other_question other_at other_rows) =
    question_eq question other_question && nat_eq at other_at && pointwise row_eq rows other_rows
answer_eq (answer.Unserved question cause) (answer.Unserved other_question other_cause) =
    question_eq question other_question && cause_eq cause other_cause
answer_eq _ _ = false
