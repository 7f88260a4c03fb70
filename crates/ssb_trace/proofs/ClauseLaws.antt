-- Constants of a star question are read back: each is a text that a table file can hold, and has bytes.
use Rattle.std.proofs.Common.{◌≡◌, ◌∙◌, ℕ, zero, suc, false, nat_eq, List, [], ◌∷◌, length, map, Some, None}
use Rattle.std.proofs.Common.{IsUtf8, refl, ap, subst, arith, ne_eqb}
use Rattle.std.specs.Prelude.{slice_get}
use Rattle.std.specs.List.{AllByRecursion}
use Rattle.std.proofs.lemmas.Option.{none-some}
use Rattle.ssb_questions.proofs.PlainLaws.{plain_clauses}
use Rattle.ssb_questions.proofs.StarLaws.{says}
use Rattle.ssb_questions.specs.Clause.{Clause, clause_of, parted}
use Rattle.ssb_questions.specs.Clauses.{clause_said}
use Rattle.ssb_questions.specs.Kind.{constant_kinds}
use Rattle.ssb_questions.specs.Laws.{IsPlainClause}
use Rattle.ssb_questions.specs.Question.{constants_fault, fault_by}
use Rattle.ssb_questions.specs.declared.query.Query.{Query}
use Rattle.ssb_questions.specs.declared.query.Query.TheVariants.{Star}
use Rattle.ssb_questions.specs.declared.value.Value.{Value}
use Rattle.ssb_questions.specs.declared.value.Value.TheVariants as value
use Rattle.ssb_report.specs.AnswerText.{value_text}
use Rattle.ssb_script.specs.Lines.{texts_spelled, without_closing}
use Rattle.ssb_trace.specs.Allowed.{IsAllowedQuestion, IsAllowedValue}
use Rattle.ssb_text.proofs.FieldTextLaws.{IsKept, text_kept, text_read}
use Rattle.ssb_text.proofs.RecordTextLaws.{IsPlainField}

-- a text that has bytes, is kept, and is UTF-8
abbrev pub IsClause : Value → Type 0
IsClause (value.Text bytes) = IsKept bytes × (nat_eq (length bytes) 0 ≡ false) × IsUtf8 bytes
IsClause (value.Number n) = ⊥

-- a text without bytes says nothing
nothing-said : clause_of [] ≡ None
unfolding parted
nothing-said = refl

bytes_in : Value → List ℕ
bytes_in (value.Text bytes) = bytes
bytes_in (value.Number n) = []

clause-kept : (v : Value) → IsPlainClause v → IsAllowedValue v → (clause : Clause) → clause_said v ≡ Some clause
    → IsClause v
unfolding bytes_in
clause-kept (value.Text []) plain allowed clause said = grind (arith, none-some, nothing-said)
clause-kept (value.Text (b ∷ bytes)) plain allowed clause said = grind (arith, bytes_in, nat_eq, ne_eqb, text_kept)
clause-kept (value.Number n) plain allowed clause said = grind (arith, none-some)

each-kept : (values : List Value) → AllByRecursion IsPlainClause values → AllByRecursion IsAllowedValue values
    → ((i : ℕ) (v : Value) → slice_get values i ≡ Some v → (clause : Clause) × (clause_said v ≡ Some clause))
    → AllByRecursion IsClause values
each-kept [] plain allowed speaks = tt
each-kept (v ∷ values) plain allowed speaks =
    let clause = speaks zero v refl in (
      clause-kept v plain.0 allowed.0 clause.0 clause.1,
      each-kept values plain.1 allowed.1 (λ i w at. speaks (suc i) w at),
    )

pub clauses_kept : (question : Query × List Value) → constant_kinds question.0 ≡ None → IsAllowedQuestion question
    → AllByRecursion IsClause question.1
clauses_kept question none allowed =
    let taken : constants_fault Star question.1 ≡ None =
    subst (λ kinds. fault_by kinds question.0 question.1 ≡ None) none allowed.taken in
    each-kept question.1 (plain_clauses question.1 taken) allowed.constants (says question.1 taken)

-- fields of such texts have no closing one, and spell the texts
some-bytes : (v : Value) → IsClause v → nat_eq (length (value_text v)) 0 ≡ false
some-bytes (value.Text bytes) clause = clause.1
some-bytes (value.Number n) clause = absurd clause

pub no_closing : (values : List Value) → AllByRecursion IsClause values
    → without_closing (map value_text values) ≡ map value_text values
unfolding without_closing
no_closing [] all = refl
no_closing (v ∷ []) all = rw (some-bytes v all.0) refl
no_closing (v ∷ w ∷ values) all = ap (λ fields. value_text v ∷ fields) (no_closing (w ∷ values) all.1)

pub clauses_read : (values : List Value) → AllByRecursion IsClause values
    → texts_spelled (map value_text values) ≡ Some values
unfolding texts_spelled
clauses_read [] all = grind arith
clauses_read (value.Text bytes ∷ values) all = grind (arith, text_read, clauses_read values all.1)
clauses_read (value.Number n ∷ values) all = grind arith

pub clauses_plain : (values : List Value) → AllByRecursion IsClause values
    → AllByRecursion IsPlainField (map value_text values)
clauses_plain [] all = tt
clauses_plain (value.Text bytes ∷ values) all = (all.0.0.plain, clauses_plain values all.1)
clauses_plain (value.Number n ∷ values) all = absurd all.0
