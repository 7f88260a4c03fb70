-- The answers over the rows that begin a class, of places by class, are those over all rows.
use Rattle.std.proofs.Common.{◌≡◌, ℕ, ◌<◌, ◌≤◌, Bool, true, false, cond, List, [], ◌∷◌, length, map, take, get_or}
use Rattle.std.proofs.Common.{Some, zero, suc, refl, sym, ap, ◌∙◌, subst, arith}
use Rattle.std.specs.Prelude.{slice_get, filter}
use Rattle.std.specs.List.{All}
use Rattle.std.proofs.lemmas.List.{length-map}
use Rattle.std.proofs.lemmas.List.FromFn.{length-map-range_with_len}
use Rattle.std.proofs.lemmas.List.Elements.{All-filter, recursion_from_All}
use Rattle.ssb_schema.specs.declared.fact.Fact.{Fact}
use Rattle.ssb_base.specs.Base.{Dimensions, Tables, IsSound, IsKnown}
use Rattle.ssb_schema.specs.declared.table.Table.TheVariants as table
use Rattle.ssb_questions.specs.declared.plan.Plan.{Plan}
use Rattle.ssb_questions.specs.declared.query.Query.{Query}
use Rattle.ssb_questions.specs.declared.value.Value.{Value}
use Rattle.ssb_questions.specs.Queries.{plan_over}
use Rattle.ssb_answers.specs.Answer.{answer_of, rows_over}
use Rattle.ssb_answers.specs.Combination.{Combination, passes, combinations}
use Rattle.fact_columns.specs.declared.place.Place.{Place}
use Rattle.fact_columns.specs.Places.{IsWithin, is_live, fact_at, live_facts}
use Rattle.fact_columns.specs.Classed.{IsPlaceOf}
use Rattle.fact_columns.specs.Columns.{AreColumnsOf}
use Rattle.dimension_index.specs.Classes.{classes_by, classes_of, extent_of, reduced}
use Rattle.dimension_index.proofs.AlikeLaws.{class_found, below_extent, same_customers, same_suppliers, same_parts}
use Rattle.dimension_index.proofs.AlikeLaws.{same_dates}
use Rattle.scan_kernel.proofs.FoundLaws.{all_mapped}
use Rattle.scan_kernel.specs.declared.columns.LineColumns.{LineColumns}
use Rattle.scan_kernel.specs.Combined.{combine, passes_line}
use Rattle.scan_kernel.proofs.CombinedLaws.{filter_mapped, combines_each_line}
use Rattle.shared_scan.specs.Answers.{answers_over}
use Rattle.shared_scan.specs.Classed.{classed}
use Rattle.shared_scan.specs.Laws.{AreLinesOf}
use Rattle.shared_scan.proofs.LineLaws.{rows_stand}
use Rattle.shared_scan.proofs.SumLaws.{map_twice}
use Rattle.fact_columns.proofs.FactCountLaws.{line_of, facts_of_lines}
use Rattle.shared_scan.proofs.TotalLaws.{blank, known_all}
use Rattle.shared_scan.proofs.AlikeLaws.{Alike, AllAlike, passes_alike, rows_alike}

-- the columns of places are those of the places by class
pub lines_classed : (places : List Place) (lines : LineColumns) → AreColumnsOf places lines
    → AreLinesOf (map classed places) lines
lines_classed places lines are = record {
  customers_are = are.customers ∙ sym (map_twice (λ (place : Place). place.customer) classed places);
  suppliers_are = are.suppliers ∙ sym (map_twice (λ (place : Place). place.supplier) classed places);
  parts_are = are.parts ∙ sym (map_twice (λ (place : Place). place.part) classed places);
  dates_are = are.dates ∙ sym (map_twice (λ (place : Place). place.date) classed places);
  terms_are = are.terms ∙ sym (map_twice (λ (place : Place). place.terms) classed places);
  prices_are = are.prices ∙ sym (map_twice (λ (place : Place). place.price) classed places);
  revenues_are = are.revenues ∙ sym (map_twice (λ (place : Place). place.revenue) classed places);
  costs_are = are.costs ∙ sym (map_twice (λ (place : Place). place.cost) classed places);
}

-- a row among the first ones stands at the same position among all
pub among_all : {R : Type 0} (n : ℕ) (rows : List R) (p : ℕ) (row : R) → slice_get (take n rows) p ≡ Some row
    → slice_get rows p ≡ Some row
among_all zero rows p row at = absurd (cc)
among_all (suc n) [] p row at = at
among_all (suc n) (r ∷ rows) zero row at = at
among_all (suc n) (r ∷ rows) (suc p) row at = among_all n rows p row at

-- the combination of a place, and that of the place by class, are alike
pub places_alike : (base : Tables) (blank : Combination) (place : Place) → IsSound base → IsSound (reduced base)
    → IsPlaceOf base.dimensions place → IsWithin (reduced base).dimensions (classed place)
    → Alike (combine blank base.dimensions (fact_at base.dimensions place))
    (combine blank (reduced base).dimensions (fact_at (reduced base).dimensions (classed place)))
places_alike base blank place sound sound_first own within =
    let d = base.dimensions in
    let all = rows_stand base blank place sound own.within in
    let first = rows_stand (reduced base) blank (classed place) sound_first within in
    record {
      quantity = refl;
      discount = refl;
      price = refl;
      revenue = refl;
      cost = refl;
      customer = same_customers d place.customer place.customer_class _ _ all.customer own.customer_class
          (among_all _ d.customers place.customer_class _ first.customer);
      supplier = same_suppliers d place.supplier place.supplier_class _ _ all.supplier own.supplier_class
          (among_all _ d.suppliers place.supplier_class _ first.supplier);
      part = same_parts d place.part place.part_class _ _ all.part own.part_class
          (among_all _ d.parts place.part_class _ first.part);
      date = same_dates d place.date place.date_class _ _ all.date own.date_class
          (among_all _ d.dates place.date_class _ first.date);
    }

-- what passes of one list and of the other is alike
pub passing_alike : (plan : Plan) (f g : Place → Combination) (places : List Place)
    → All (λ place. Alike (f place) (g place)) places
    → AllAlike (map f (filter (λ place. passes plan (f place)) places))
    (map g (filter (λ place. passes plan (g place)) places))
passing_alike plan f g [] all = tt
passing_alike plan f g (place ∷ places) all =
    step (passes plan (f place)) (passes plan (g place))
    (passes_alike plan (f place) (g place) (all 0 place (omega arith)))
    (passing_alike plan f g places (λ i d within. all (suc i) d (omega (arith, within))))
  where
    kept : (Place → Combination) → List Place
    kept h = filter (λ p. passes plan (h p)) places

    step : (a b : Bool) → a ≡ b → AllAlike (map f (kept f)) (map g (kept g))
        → AllAlike (map f (cond a (place ∷ kept f) (kept f))) (map g (cond b (place ∷ kept g) (kept g)))
    step true true is rest = (all 0 place (omega arith), rest)
    step false false is rest = rest
    step true false is rest = absurd (cc)
    step false true is rest = absurd (cc)

below_taken : {R : Type 0} (n : ℕ) (rows : List R) (i : ℕ) → i < n → i < length rows → i < length (take n rows)
below_taken zero rows i some there = grind arith
below_taken (suc n) [] i some there = grind arith
below_taken (suc n) (r ∷ rows) zero some there = grind arith
below_taken (suc n) (r ∷ rows) (suc i) some there = grind (arith, below_taken n rows i (omega (arith, some)) (omega (arith, there)))

-- a row's class is the position of one of the first rows
pub class_there : {R : Type 0} (columns : List (List Value)) (rows : List R) (p class : ℕ) → p < length rows
    → class ≡ get_or (classes_by columns (length rows)) p 0
    → class < length (take (extent_of (classes_by columns (length rows))) rows)
class_there columns rows p class within is =
    let classes = classes_by columns (length rows) in
    let many : length classes ≡ length rows = length-map-range_with_len _ 0 (length rows) in
    let first : get_or classes p 0 ≤ p = (class_found columns (length rows) p within).0 in
    let below : get_or classes p 0 < extent_of classes = below_extent classes p (omega (arith, many, within)) in
    below_taken (extent_of classes) rows class (omega (arith, is, below)) (omega (arith, is, first, within))

-- a place by class is within the rows that begin a class
pub classed_within : (base : Tables) (place : Place) → IsPlaceOf base.dimensions place
    → IsWithin (reduced base).dimensions (classed place)
unfolding classes_of
classed_within base place own = grind (arith, class_there)

-- the places are within the dimensions
pub own_within : (dimensions : Dimensions) (places : List Place) → All (IsPlaceOf dimensions) places
    → All (IsWithin dimensions) places
own_within dimensions places own k place below = (own k place below).within

pub classed_all : (base : Tables) (places : List Place) → All (IsPlaceOf base.dimensions) places
    → All (IsWithin (reduced base).dimensions) (map classed places)
classed_all base places own = all_mapped _ _ (IsWithin (reduced base).dimensions) classed places
    (λ k place below. classed_within base (get_or places k place) (own k place below))

live_classed : (places : List Place) → filter is_live (map classed places) ≡ map classed (filter is_live places)
live_classed places = filter_mapped is_live classed places

-- as many lines are live
pub as_many_live : (base : Tables) (places : List Place)
    → length (live_facts (reduced base).dimensions (map classed places)) ≡ length (live_facts base.dimensions places)
as_many_live base places = grind (arith, length-map, live_classed)

-- the line of a place, with the rows that it names
abbrev pub combined_at : Dimensions → Place → Combination
combined_at dimensions place = combine blank dimensions (fact_at dimensions place)

-- what is found over places
found_at : (plan : Plan) (base : Tables) (places : List Place) → IsSound base → All (IsWithin base.dimensions) places
    → combinations plan base.dimensions (live_facts base.dimensions places)
    ≡ map (combined_at base.dimensions) (filter (λ place. passes plan (combined_at base.dimensions place))
    (filter is_live places))
found_at plan base places sound within =
    let d = base.dimensions in
    let live = filter is_live places in
    let facts = live_facts d places in
    let known = recursion_from_All (IsKnown d) (map line_of facts) (known_all d places within) in
    subst (λ (fs : List Fact). combinations plan d fs ≡ map (combine blank d) (filter (passes_line plan blank d) fs))
    (facts_of_lines facts) (combines_each_line blank plan base (map line_of facts) sound known)
    ∙ ap (map (combine blank d)) (filter_mapped (passes_line plan blank d) (fact_at d) live)
    ∙ map_twice (combine blank d) (fact_at d) (filter (λ place. passes plan (combined_at d place)) live)

-- what is found over places by class
found_by_class : (plan : Plan) (base : Tables) (places : List Place) → IsSound (reduced base)
    → All (IsPlaceOf base.dimensions) places
    → combinations plan (reduced base).dimensions (live_facts (reduced base).dimensions (map classed places))
    ≡ map (λ place. combined_at (reduced base).dimensions (classed place))
    (filter (λ place. passes plan (combined_at (reduced base).dimensions (classed place)))
    (filter is_live places))
found_by_class plan base places sound_first own =
    let d = (reduced base).dimensions in
    let live = filter is_live places in
    let test : Place → Bool = λ place. passes plan (combined_at d place) in
    found_at plan (reduced base) (map classed places) sound_first (classed_all base places own)
    ∙ ap (λ (ps : List Place). map (combined_at d) (filter test ps)) (live_classed places)
    ∙ ap (map (combined_at d)) (filter_mapped test classed live)
    ∙ map_twice (combined_at d) classed (filter (λ place. test (classed place)) live)

-- the answer to a question over the rows that begin a class is that over all rows
pub answer_classed : (base : Tables) (question : Query × List Value) (places : List Place) → IsSound base
    → IsSound (reduced base) → All (IsPlaceOf base.dimensions) places
    → answer_of question (reduced base).dimensions (live_facts (reduced base).dimensions (map classed places)) ≡
    answer_of question base.dimensions (live_facts base.dimensions places)
answer_classed base question places sound sound_first own =
    let plan : Plan = plan_over question.0 question.1 in
    let live = filter is_live places in
    let f : Place → Combination = combined_at base.dimensions in
    let g : Place → Combination = λ place. combined_at (reduced base).dimensions (classed place) in
    let Q : Place → Type 0 = λ place. Alike (f place) (g place) in
    let each : All Q places = λ k place below.
    places_alike base blank (get_or places k place) sound sound_first (own k place below)
    (classed_within base (get_or places k place) (own k place below)) in
    let all : All Q live = All-filter is_live Q places each in
    ap (λ (cs : List Combination). rows_over plan cs) (found_by_class plan base places sound_first own)
    ∙ sym (rows_alike plan (map f (filter (λ place. passes plan (f place)) live))
    (map g (filter (λ place. passes plan (g place)) live)) (passing_alike plan f g live all))
    ∙ ap (λ (cs : List Combination). rows_over plan cs)
    (sym (found_at plan base places sound (own_within base.dimensions places own)))

-- so are those of a batch
pub answers_classed : (base : Tables) (questions : List (Query × List Value)) (places : List Place) → IsSound base
    → IsSound (reduced base) → All (IsPlaceOf base.dimensions) places
    → answers_over (reduced base).dimensions (live_facts (reduced base).dimensions (map classed places)) questions ≡
    answers_over base.dimensions (live_facts base.dimensions places) questions
answers_classed base [] places sound sound_first own = refl
answers_classed base (question ∷ questions) places sound sound_first own =
    λ j. record { question = question; list = answer_classed base question places sound sound_first own j }
    ∷ answers_classed base questions places sound sound_first own j
