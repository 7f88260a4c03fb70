-- The constants of a question and the group columns of a row are read back.
use Rattle.std.proofs.Common.{suc, ltb-false, eqb-true, ◌≡◌, ℕ, ◌+◌, ◌≤◌, Bool, true, false, not, nat_eq}
use Rattle.std.proofs.Common.{nat_lt, List, [], ◌∷◌, ◌++◌, length, map, zip, position, Option, Some, None, option_map}
use Rattle.std.proofs.Common.{refl, sym, ap, ◌∙◌, append_assoc, length-append, arith, inl, inr}
use Rattle.std.specs.List.{AllByRecursion, AllZip, position_or_len}
use Rattle.std.proofs.lemmas.Bool.{cases_Bool}
use Rattle.std.proofs.lemmas.Option.{none-some}
use Rattle.ssb_questions.specs.Kind.{constant_kinds, fits}
use Rattle.ssb_questions.specs.Question.{fault_by}
use Rattle.ssb_questions.specs.declared.kind.ConstantKind.{ConstantKind}
use Rattle.ssb_questions.specs.declared.kind.ConstantKind.TheVariants as kind
use Rattle.ssb_questions.specs.declared.query.Query.{Query}
use Rattle.ssb_questions.specs.declared.value.Value.{Value}
use Rattle.ssb_questions.specs.declared.value.Value.TheVariants as value
use Rattle.ssb_report.specs.AnswerText.{value_text}
use Rattle.ssb_schema.specs.Columns.{is_plain}
use Rattle.ssb_schema.specs.declared.column.Column.{Column}
use Rattle.ssb_script.specs.Lines.{constant_spelled, constants_from}
use Rattle.ssb_trace.specs.Allowed.{IsAllowedQuestion, IsAllowedValue, IsGroup}
use Rattle.ssb_text.proofs.FieldTextLaws.{IsKept, field_there, text_kept, text_read}
use Rattle.ssb_text.proofs.NumberTextLaws.{number_kept, number_read}
use Rattle.ssb_text.proofs.RecordTextLaws.{IsPlainField}

-- one value
value-kept : (k : ConstantKind) (v : Value) → IsGroup k v → IsKept (value_text v)
value-kept (kind.Text column) (value.Text bytes) fit = text_kept bytes fit.0
value-kept kind.Number (value.Number n) fit = number_kept n fit
value-kept (kind.Text column) (value.Number n) fit = absurd fit
value-kept kind.Number (value.Text bytes) fit = absurd fit

value-read : (k : ConstantKind) (v : Value) → IsGroup k v → constant_spelled k (value_text v) ≡ Some v
value-read (kind.Text column) (value.Text bytes) fit = ap (option_map value.Text) (text_read bytes fit.1)
value-read kind.Number (value.Number n) fit = ap (option_map value.Number) (number_read n fit)
value-read (kind.Text column) (value.Number n) fit = absurd fit
value-read kind.Number (value.Text bytes) fit = absurd fit

-- values in a record, with fields before and behind them
pub values_plain : (kinds : List ConstantKind) (values : List Value) → AllZip IsGroup kinds values
    → AllByRecursion IsPlainField (map value_text values)
values_plain [] [] fit = tt
values_plain [] (v ∷ values) fit = absurd fit
values_plain (k ∷ kinds) [] fit = absurd fit
values_plain (k ∷ kinds) (v ∷ values) fit = ((value-kept k v fit.0).plain, values_plain kinds values fit.1)

pub values_read : (front : List (List ℕ)) (kinds : List ConstantKind) (values : List Value) (back : List (List ℕ))
    → AllZip IsGroup kinds values
    → constants_from (length front) kinds (front ++ (map value_text values ++ back)) ≡ Some values
unfolding constants_from
values_read front [] [] back fit = grind arith
values_read front [] (v ∷ values) back fit = grind arith
values_read front (k ∷ kinds) [] back fit = grind arith
values_read front (k ∷ kinds) (v ∷ values) back fit = grind (arith, field_there, value-kept, length-append, append_assoc, value-read, values_read (front ++ value_text v ∷ []) kinds values back fit.1)

pub as_many_values : (kinds : List ConstantKind) (values : List Value) → AllZip IsGroup kinds values
    → length (map value_text values) ≡ length kinds
as_many_values [] [] fit = refl
as_many_values [] (v ∷ values) fit = absurd fit
as_many_values (k ∷ kinds) [] fit = absurd fit
as_many_values (k ∷ kinds) (v ∷ values) fit = ap suc (as_many_values kinds values fit.1)

false-true : false ≡ true → ⊥
false-true e = cc

-- constants that a query takes may stand in their places
abbrev misfits : ConstantKind × Value → Bool
misfits at = not (fits at.0 at.1)

text-fits : (column : Column) (bytes : List ℕ) → fits (kind.Text column) (value.Text bytes) ≡ true
    → is_plain bytes ≡ true
text-fits column bytes fit = grind (arith, cases_Bool, nat_lt, false-true)

one-fits : (k : ConstantKind) (v : Value) → fits k v ≡ true → IsAllowedValue v → IsGroup k v
one-fits (kind.Text column) (value.Text bytes) fit allowed = (text-fits column bytes fit, allowed)
one-fits kind.Number (value.Number n) fit allowed = allowed
one-fits (kind.Text column) (value.Number n) fit allowed = absurd (false-true fit)
one-fits kind.Number (value.Text bytes) fit allowed = absurd (false-true fit)

all-fit : (kinds : List ConstantKind) (values : List Value) → length values ≡ length kinds
    → length (zip kinds values) ≤ position_or_len misfits (zip kinds values)
    → AllByRecursion IsAllowedValue values → AllZip IsGroup kinds values
all-fit [] [] many past allowed = tt
all-fit [] (v ∷ values) many past allowed = absurd (omega (arith, many))
all-fit (k ∷ kinds) [] many past allowed = absurd (omega (arith, many))
all-fit (k ∷ kinds) (v ∷ values) many past allowed = elim (cases_Bool (fits k v)) [
  | inl fit ↦
      let before : suc (length (zip kinds values)) ≤ 1 + position_or_len misfits (zip kinds values) = rw fit at past in
      (one-fits k v fit allowed.0, all-fit kinds values (omega (arith, many)) (omega (arith, before)) allowed.1)
  | inr other ↦ absurd (let none : suc (length (zip kinds values)) ≤ 0 = rw other at past in omega (arith, none))
]

not-mapped : {A B : Type 0} (f : A → B) (o : Option A) → option_map f o ≡ None → o ≡ None
not-mapped f None e = refl
not-mapped f (Some x) e = absurd (none-some _ (sym e))

no-fault : (query : Query) (kinds : List ConstantKind) (constants : List Value)
    → fault_by (Some kinds) query constants ≡ None
    → (length constants ≡ length kinds) × (position misfits (zip kinds constants) ≡ None)
no-fault query kinds constants none = grind (arith, cases_Bool, nat_eq, eqb-true, not-mapped, position, zip, none-some)

nowhere : {X : Type 0} (p : X → Bool) (xs : List X) → position p xs ≡ None → length xs ≤ position_or_len p xs
nowhere p xs none = grind (arith, cases_Bool, nat_lt, none-some, ltb-false)

pub constants_fit : (question : Query × List Value) (kinds : List ConstantKind)
    → constant_kinds question.0 ≡ Some kinds → IsAllowedQuestion question → AllZip IsGroup kinds question.1
constants_fit question kinds are allowed = grind (arith, no-fault, all-fit, nowhere, zip)
