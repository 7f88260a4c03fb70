use Rattle.std.proofs.Common.{arith}
-- Distinct queries have distinct names, and `==` of questions decides whether they are the same.
use Rattle.std.proofs.Common.{◌≡◌, ℕ, List, Option, Some, refl, sym, ap, ◌∙◌}
use Rattle.std.specs.Prelude.{◌&&◌, true, Bool, find}
use Rattle.std.specs.Bool.{Decides}
use Rattle.std.specs.Option.{unwrap_or}
use Rattle.std.proofs.lemmas.Slice.Eq.{slice_eq-Decides, bytes_eq-Decides}
use Rattle.ssb_questions.proofs.ValueLaws.{value_Decides}
use Rattle.ssb_questions.specs.Query.{name_of}
use Rattle.ssb_questions.specs.QuestionEq.{question_eq}
use Rattle.ssb_questions.specs.Text.{text_eq}
use Rattle.ssb_questions.specs.declared.query.Query.{Query}
use Rattle.ssb_questions.specs.declared.query.Query.TheVariants.{Q1_1, Q1_2, Q1_3, Q2_1, Q2_2, Q2_3, Q3_1, Q3_2, Q3_3}
use Rattle.ssb_questions.specs.declared.query.Query.TheVariants.{Q3_4}
use Rattle.ssb_questions.specs.declared.query.Query.TheVariants.{Q4_1, Q4_2, Q4_3, Star}
use Rattle.ssb_questions.specs.declared.query.TheConstants.{QUERIES_AND_STAR}
use Rattle.ssb_questions.specs.declared.value.Value.{Value}

-- the query of a name
abbrev named : List ℕ → Option Query
named name = find (λ query. text_eq (name_of query) name) QUERIES_AND_STAR

named-name : (query : Query) → named (name_of query) ≡ Some query
named-name Q1_1 = refl
named-name Q1_2 = refl
named-name Q1_3 = refl
named-name Q2_1 = refl
named-name Q2_2 = refl
named-name Q2_3 = refl
named-name Q3_1 = refl
named-name Q3_2 = refl
named-name Q3_3 = refl
named-name Q3_4 = refl
named-name Q4_1 = refl
named-name Q4_2 = refl
named-name Q4_3 = refl
named-name Star = refl

pub name_of-same : (a b : Query) → name_of a ≡ name_of b → a ≡ b
name_of-same a b e = ap (λ (query : Option Query). unwrap_or query a) (sym (named-name a) ∙ ap named e ∙ named-name b)

both_true : (s t : Bool) → s ≡ true → t ≡ true → (s && t) ≡ true
both_true s t p q = ap (λ (b : Bool). b && t) p ∙ q

pub question_Decides : (a b : Query × List Value) → Decides (question_eq a b) (a ≡ b)
question_Decides a b = grind (arith, bytes_eq-Decides, slice_eq-Decides, value_Decides, name_of-same, both_true)
