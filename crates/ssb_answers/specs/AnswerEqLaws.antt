-- `==` of rows and answers decides whether they are the same.
use Rattle.std.proofs.Common.{◌≡◌, ℕ, Bool, true, List, Option, None, Some, refl, ap, ◌∙◌}
use Rattle.std.specs.Prelude.{ℤ, ◌&&◌, nat_eq}
use Rattle.std.specs.Bool.{Decides}
use Rattle.std.specs.Option.{option_eq}
use Rattle.std.specs.Ordering.{eq_by_cmp, int_eq}
use Rattle.std.specs.Cmp.{IsEquivalence, decided, signed_Decides, unsigned_Decides, first_so, second_so}
use Rattle.std.specs.Cmp.Lexicographic.{pointwise}
use Rattle.std.proofs.lemmas.Slice.Eq.{slice_eq-Decides}
use Rattle.ssb_questions.specs.QuestionEq.{question_eq}
use Rattle.ssb_questions.specs.Value.{value_cmp}
use Rattle.ssb_questions.specs.declared.query.Query.{Query}
use Rattle.ssb_questions.specs.declared.value.Value.{Value}
use Rattle.ssb_questions.proofs.QuestionLaws.{question_Decides}
use Rattle.ssb_questions.proofs.ValueLaws.{value_Decides}
use Rattle.ssb_answers.specs.AnswerEq.{row_eq, rows_eq, cause_eq, answer_eq}
use Rattle.ssb_answers.specs.declared.answer.Answer.{Answer}
use Rattle.ssb_answers.specs.declared.answer.Answer.TheVariants as answer
use Rattle.ssb_answers.specs.declared.answer.ResultRow.{ResultRow}
use Rattle.ssb_answers.specs.declared.answer.Rows.{Rows}
use Rattle.ssb_answers.specs.declared.answer.Unserved.{Unserved}
use Rattle.ssb_answers.specs.declared.answer.Unserved.TheVariants.{OutOfMemory, Twin}

sum_Decides : (a b : Option ℤ) → Decides (option_eq int_eq a b) (a ≡ b)
sum_Decides None None = (λ _. refl, λ _. refl)
sum_Decides None (Some y) = (λ t. cc, λ e. cc)
sum_Decides (Some x) None = (λ t. cc, λ e. cc)
sum_Decides (Some x) (Some y) = (λ t. ap Some ((signed_Decides x y).0 t), λ e. (signed_Decides x y).1 (same x y e))
  where
    same : (x y : ℤ) → Some x ≡ Some y → x ≡ y
    same x y e = cc

both_true : (s t : Bool) → s ≡ true → t ≡ true → (s && t) ≡ true
both_true s t p q = ap (λ (b : Bool). b && t) p ∙ q

pub row_Decides : (a b : ResultRow) → Decides (row_eq a b) (a ≡ b)
row_Decides a b =
    let groups
    = slice_eq-Decides value_Decides a.groups b.groups (pointwise (eq_by_cmp value_cmp) a.groups b.groups) refl in
    let sum = sum_Decides a.sum b.sum in (
      λ t. same_fields a b (groups.0 (first_so _ _ t)) (sum.0 (second_so _ _ t)),
      λ e. both_true _ _ (groups.1 (ap (λ (row : ResultRow). row.groups) e))
          (sum.1 (ap (λ (row : ResultRow). row.sum) e)),
    )
  where
    same_fields : (a b : ResultRow) → a.groups ≡ b.groups → a.sum ≡ b.sum → a ≡ b
    same_fields a b p q = λ i. record { groups = p i; sum = q i }

list_Decides : (a b : List ResultRow) → Decides (pointwise row_eq a b) (a ≡ b)
list_Decides a b = slice_eq-Decides row_Decides a b (pointwise row_eq a b) refl

pub rows_Decides : (a b : Rows) → Decides (rows_eq a b) (a ≡ b)
rows_Decides a b =
    let question = question_Decides a.question b.question in
    let list = list_Decides a.list b.list in (
      λ t. same_fields a b (question.0 (first_so _ _ t)) (list.0 (second_so _ _ t)),
      λ e. both_true _ _ (question.1 (ap (λ (rows : Rows). rows.question) e))
          (list.1 (ap (λ (rows : Rows). rows.list) e)),
    )
  where
    same_fields : (a b : Rows) → a.question ≡ b.question → a.list ≡ b.list → a ≡ b
    same_fields a b p q = λ i. record { question = p i; list = q i }

pub cause_Decides : (a b : Unserved) → Decides (cause_eq a b) (a ≡ b)
cause_Decides OutOfMemory OutOfMemory = (λ _. refl, λ _. refl)
cause_Decides OutOfMemory (Twin told found) = (λ t. cc, λ e. cc)
cause_Decides (Twin told found) OutOfMemory = (λ t. cc, λ e. cc)
cause_Decides (Twin told found) (Twin told2 found2) = (
  λ t i. Twin ((unsigned_Decides told told2).0 (first_so _ _ t) i)
      ((unsigned_Decides found found2).0 (second_so _ _ t) i),
  λ e. both_true _ _ ((unsigned_Decides told told2).1 (ap told_of e))
      ((unsigned_Decides found found2).1 (ap found_of e)),
)
  where
    told_of : Unserved → ℕ
    told_of OutOfMemory = 0
    told_of (Twin told found) = told

    found_of : Unserved → ℕ
    found_of OutOfMemory = 0
    found_of (Twin told found) = found

-- the parts of an answer
abbrev question_of : Answer → Query × List Value
question_of (answer.Rows question at rows) = question
question_of (answer.Unserved question cause) = question

abbrev at_of : Answer → ℕ
at_of (answer.Rows question at rows) = at
at_of (answer.Unserved question cause) = 0

abbrev rows_of : List ResultRow → Answer → List ResultRow
rows_of default (answer.Rows question at rows) = rows
rows_of default (answer.Unserved question cause) = default

abbrev cause_of : Unserved → Answer → Unserved
cause_of default (answer.Rows question at rows) = default
cause_of default (answer.Unserved question cause) = cause

pub answer_Decides : (a b : Answer) → Decides (answer_eq a b) (a ≡ b)
answer_Decides (answer.Rows question at rows) (answer.Rows question2 at2 rows2) =
    let questions = question_Decides question question2 in
    let ats = unsigned_Decides at at2 in
    let lists = list_Decides rows rows2 in (
      λ t.
          let first = first_so (question_eq question question2 && nat_eq at at2) (pointwise row_eq rows rows2) t in
          let p = questions.0 (first_so (question_eq question question2) (nat_eq at at2) first) in
          let q = ats.0 (second_so (question_eq question question2) (nat_eq at at2) first) in
          let r = lists.0 (second_so (question_eq question question2 && nat_eq at at2)
          (pointwise row_eq rows rows2) t) in
          λ i. answer.Rows (p i) (q i) (r i),
      λ e. both_true _ _ (both_true _ _ (questions.1 (ap question_of e)) (ats.1 (ap at_of e)))
          (lists.1 (ap (rows_of rows) e)),
    )
answer_Decides (answer.Rows question at rows) (answer.Unserved question2 cause2) = (λ t. cc, λ e. cc)
answer_Decides (answer.Unserved question cause) (answer.Rows question2 at2 rows2) = (λ t. cc, λ e. cc)
answer_Decides (answer.Unserved question cause) (answer.Unserved question2 cause2) =
    let questions = question_Decides question question2 in
    let causes = cause_Decides cause cause2 in (
      λ t.
          let p = questions.0 (first_so (question_eq question question2) (cause_eq cause cause2) t) in
          let q = causes.0 (second_so (question_eq question question2) (cause_eq cause cause2) t) in
          λ i. answer.Unserved (p i) (q i),
      λ e. both_true _ _ (questions.1 (ap question_of e)) (causes.1 (ap (cause_of cause) e)),
    )

pub row_eq-equiv : IsEquivalence row_eq
row_eq-equiv = decided row_eq row_Decides

pub rows_eq-equiv : IsEquivalence rows_eq
rows_eq-equiv = decided rows_eq rows_Decides

pub cause_eq-equiv : IsEquivalence cause_eq
cause_eq-equiv = decided cause_eq cause_Decides

pub answer_eq-equiv : IsEquivalence answer_eq
answer_eq-equiv = decided answer_eq answer_Decides
