-- In each plan what is looked for stands among the constants: of the thirteen at the places of its columns.
use Rattle.std.proofs.Common.{◌≡◌, ◌∙◌, ℕ, zero, suc, ◌+◌, Bool, true, false, not, cond, nat_eq, List, [], ◌∷◌, Option}
use Rattle.std.proofs.Common.{Some, None, length, refl, sym, ap, arith}
use Rattle.std.specs.List.{slice_get, zip, position, position_from}
use Rattle.std.proofs.lemmas.Bool.Decides.{nat_tests}
use Rattle.std.proofs.lemmas.Iterator.Adapters.{position_from-zero}
use Rattle.ssb_schema.specs.Columns.{C_CITY, C_NATION, C_REGION, S_CITY, S_NATION, S_REGION, P_MFGR, P_CATEGORY}
use Rattle.ssb_schema.specs.Columns.{P_BRAND1, D_YEARMONTH}
use Rattle.ssb_schema.specs.declared.column.Column.{Column}
use Rattle.ssb_questions.specs.Kind.{fits, constant_kinds}
use Rattle.ssb_questions.specs.Plan.{LooksForConstants, StandsAmong}
use Rattle.ssb_questions.specs.Queries.{plan_over, number_at, text_at, number_of, text_of}
use Rattle.ssb_questions.proofs.GivenLaws.{star_looks}
use Rattle.ssb_questions.specs.Question.{constants_fault, fault_by}
use Rattle.std.specs.Option.{option_map, unwrap_or}
use Rattle.ssb_questions.specs.declared.question.ConstantsFault.{ConstantsFault}
use Rattle.ssb_questions.specs.declared.question.ConstantsFault.TheVariants.{BadConstant}
use Rattle.ssb_questions.specs.declared.kind.ConstantKind.{ConstantKind}
use Rattle.ssb_questions.specs.declared.kind.ConstantKind.TheVariants as kind
use Rattle.ssb_questions.specs.declared.query.Query.{Query}
use Rattle.ssb_questions.specs.declared.query.Query.TheVariants.{Q1_1, Q1_2, Q1_3, Q2_1, Q2_2, Q2_3, Q3_1, Q3_2, Q3_3}
use Rattle.ssb_questions.specs.declared.query.Query.TheVariants.{Q3_4, Q4_1, Q4_2, Q4_3, Star}
use Rattle.ssb_questions.specs.declared.value.Value.{Value}
use Rattle.ssb_questions.specs.declared.value.Value.TheVariants as value

-- no first unfit constant: this one fits, and the others
fit_here : {X : Type 0} (fit : Bool) (x : X) (later : Option X) → cond (not fit) (Some x) later ≡ None → (fit ≡ true)
    × (later ≡ None)
fit_here true x later e = (refl, e)
fit_here false x later e = absurd cc

-- a constant at each place, which fits its kind
fits_each : (kinds : List ConstantKind) (constants : List Value) (from : ℕ) → length constants ≡ length kinds
    → position_from (λ at. not (fits at.0 at.1)) from (zip kinds constants) ≡ None
    → (place : ℕ) (k : ConstantKind) → slice_get kinds place ≡ Some k
    → (v : Value) × (slice_get constants place ≡ Some v) × (fits k v ≡ true)
fits_each [] constants from same none place k at = absurd cc
fits_each (first ∷ kinds) [] from same none place k at = absurd (omega (arith, same))
fits_each (first ∷ kinds) (v ∷ constants) from same none zero k at =
    let is : first ≡ k = cc in
    (v, refl, ap (λ (each : ConstantKind). fits each v) (sym is) ∙ (fit_here (fits first v) from _ none).0)
fits_each (first ∷ kinds) (v ∷ constants) from same none (suc place) k at =
    fits_each kinds constants (from + 1) (omega (arith, same)) (fit_here (fits first v) from _ none).1 place k at

-- no fault: as many constants as kinds, and no first one that does not fit
no_fault : (same : Bool) (place : Option ℕ) (fault : ConstantsFault)
    → cond same (option_map (λ n. BadConstant (n + 1)) place) (Some fault) ≡ None → (same ≡ true) × (place ≡ None)
no_fault true None fault e = (refl, refl)
no_fault true (Some n) fault e = absurd cc
no_fault false place fault e = absurd cc

-- the kinds of the thirteen's constants
abbrev pub kinds_of : Query → List ConstantKind
kinds_of query = unwrap_or (constant_kinds query) []

by_kinds : (kinds : Option (List ConstantKind)) (query : Query) (constants : List Value)
    → fault_by kinds query constants ≡ None → (place : ℕ) (k : ConstantKind)
    → slice_get (unwrap_or kinds []) place ≡ Some k
    → (v : Value) × (slice_get constants place ≡ Some v) × (fits k v ≡ true)
by_kinds None query constants fit place k at = grind arith
by_kinds (Some kinds) query constants fit place k at = grind (arith, no_fault, nat_eq, nat_tests, fits_each, position_from-zero)

pub at_place : (query : Query) (constants : List Value) → constants_fault query constants ≡ None
    → (place : ℕ) (k : ConstantKind) → slice_get (kinds_of query) place ≡ Some k
    → (v : Value) × (slice_get constants place ≡ Some v) × (fits k v ≡ true)
at_place query constants fit = by_kinds (constant_kinds query) query constants fit

text_fits : (at : Option Value) (v : Value) (column : Column) → at ≡ Some v → fits (kind.Text column) v ≡ true
    → at ≡ Some (value.Text (text_of at))
text_fits at (value.Text t) column e fit = e ∙ ap (λ (o : Option Value). Some (value.Text (text_of o))) (sym e)
text_fits at (value.Number n) column e fit = absurd cc

number_fits : (at : Option Value) (v : Value) → at ≡ Some v → fits kind.Number v ≡ true
    → at ≡ Some (value.Number (number_of at))
number_fits at (value.Text t) e fit = absurd cc
number_fits at (value.Number n) e fit = e ∙ ap (λ (o : Option Value). Some (value.Number (number_of o))) (sym e)

-- the constant at a place of its kind
text : (query : Query) (constants : List Value) → constants_fault query constants ≡ None → (column : Column) (place : ℕ)
    → slice_get (kinds_of query) place ≡ Some (kind.Text column)
    → StandsAmong (kinds_of query) constants (kind.Text column) (value.Text (text_at constants place))
text query constants fit column place at =
    let found = at_place query constants fit place (kind.Text column) at in
    (place, at, text_fits (slice_get constants place) found.0 column found.1 found.2)

number : (query : Query) (constants : List Value) → constants_fault query constants ≡ None → (place : ℕ)
    → slice_get (kinds_of query) place ≡ Some kind.Number
    → StandsAmong (kinds_of query) constants kind.Number (value.Number (number_at constants place))
number query constants fit place at =
    let found = at_place query constants fit place kind.Number at in
    (place, at, number_fits (slice_get constants place) found.0 found.1 found.2)

pub looks_for_constants : (query : Query) (constants : List Value) → constants_fault query constants ≡ None
    → LooksForConstants query constants (plan_over query constants)
looks_for_constants Q1_1 constants fit = record {
  customers = tt;
  suppliers = tt;
  parts = tt;
  dates = (number Q1_1 constants fit 0 refl, tt);
  quantity = (number Q1_1 constants fit 3 refl, number Q1_1 constants fit 4 refl);
  discount = (number Q1_1 constants fit 1 refl, number Q1_1 constants fit 2 refl);
}
looks_for_constants Q1_2 constants fit = record {
  customers = tt;
  suppliers = tt;
  parts = tt;
  dates = (number Q1_2 constants fit 0 refl, tt);
  quantity = (number Q1_2 constants fit 3 refl, number Q1_2 constants fit 4 refl);
  discount = (number Q1_2 constants fit 1 refl, number Q1_2 constants fit 2 refl);
}
looks_for_constants Q1_3 constants fit = record {
  customers = tt;
  suppliers = tt;
  parts = tt;
  dates = (number Q1_3 constants fit 0 refl, (number Q1_3 constants fit 1 refl, tt));
  quantity = (number Q1_3 constants fit 4 refl, number Q1_3 constants fit 5 refl);
  discount = (number Q1_3 constants fit 2 refl, number Q1_3 constants fit 3 refl);
}
looks_for_constants Q2_1 constants fit = record {
  customers = tt;
  suppliers = (text Q2_1 constants fit S_REGION 1 refl, tt);
  parts = (text Q2_1 constants fit P_CATEGORY 0 refl, tt);
  dates = tt;
  quantity = tt;
  discount = tt;
}
looks_for_constants Q2_2 constants fit = record {
  customers = tt;
  suppliers = (text Q2_2 constants fit S_REGION 2 refl, tt);
  parts = ((text Q2_2 constants fit P_BRAND1 0 refl, text Q2_2 constants fit P_BRAND1 1 refl), tt);
  dates = tt;
  quantity = tt;
  discount = tt;
}
looks_for_constants Q2_3 constants fit = record {
  customers = tt;
  suppliers = (text Q2_3 constants fit S_REGION 1 refl, tt);
  parts = (text Q2_3 constants fit P_BRAND1 0 refl, tt);
  dates = tt;
  quantity = tt;
  discount = tt;
}
looks_for_constants Q3_1 constants fit = record {
  customers = (text Q3_1 constants fit C_REGION 0 refl, tt);
  suppliers = (text Q3_1 constants fit S_REGION 1 refl, tt);
  parts = tt;
  dates = ((number Q3_1 constants fit 2 refl, number Q3_1 constants fit 3 refl), tt);
  quantity = tt;
  discount = tt;
}
looks_for_constants Q3_2 constants fit = record {
  customers = (text Q3_2 constants fit C_NATION 0 refl, tt);
  suppliers = (text Q3_2 constants fit S_NATION 1 refl, tt);
  parts = tt;
  dates = ((number Q3_2 constants fit 2 refl, number Q3_2 constants fit 3 refl), tt);
  quantity = tt;
  discount = tt;
}
looks_for_constants Q3_3 constants fit = record {
  customers = ((text Q3_3 constants fit C_CITY 0 refl, (text Q3_3 constants fit C_CITY 1 refl, tt)), tt);
  suppliers = ((text Q3_3 constants fit S_CITY 2 refl, (text Q3_3 constants fit S_CITY 3 refl, tt)), tt);
  parts = tt;
  dates = ((number Q3_3 constants fit 4 refl, number Q3_3 constants fit 5 refl), tt);
  quantity = tt;
  discount = tt;
}
looks_for_constants Q3_4 constants fit = record {
  customers = ((text Q3_4 constants fit C_CITY 0 refl, (text Q3_4 constants fit C_CITY 1 refl, tt)), tt);
  suppliers = ((text Q3_4 constants fit S_CITY 2 refl, (text Q3_4 constants fit S_CITY 3 refl, tt)), tt);
  parts = tt;
  dates = (text Q3_4 constants fit D_YEARMONTH 4 refl, tt);
  quantity = tt;
  discount = tt;
}
looks_for_constants Q4_1 constants fit = record {
  customers = (text Q4_1 constants fit C_REGION 0 refl, tt);
  suppliers = (text Q4_1 constants fit S_REGION 1 refl, tt);
  parts = ((text Q4_1 constants fit P_MFGR 2 refl, (text Q4_1 constants fit P_MFGR 3 refl, tt)), tt);
  dates = tt;
  quantity = tt;
  discount = tt;
}
looks_for_constants Q4_2 constants fit = record {
  customers = (text Q4_2 constants fit C_REGION 0 refl, tt);
  suppliers = (text Q4_2 constants fit S_REGION 1 refl, tt);
  parts = ((text Q4_2 constants fit P_MFGR 2 refl, (text Q4_2 constants fit P_MFGR 3 refl, tt)), tt);
  dates = ((number Q4_2 constants fit 4 refl, (number Q4_2 constants fit 5 refl, tt)), tt);
  quantity = tt;
  discount = tt;
}
looks_for_constants Q4_3 constants fit = record {
  customers = (text Q4_3 constants fit C_REGION 0 refl, tt);
  suppliers = (text Q4_3 constants fit S_NATION 1 refl, tt);
  parts = (text Q4_3 constants fit P_CATEGORY 4 refl, tt);
  dates = ((number Q4_3 constants fit 2 refl, (number Q4_3 constants fit 3 refl, tt)), tt);
  quantity = tt;
  discount = tt;
}
looks_for_constants Star constants fit = star_looks constants
