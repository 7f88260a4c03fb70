-- Rows that are right for the totals over all places are the answer over the live lines.
use Rattle.std.proofs.Common.{ℕ, zero, suc, ◌≡◌, ◌*◌, ◌/◌, ◌%◌, ◌^◌, ◌<◌, ◌≤◌, ◌&&◌, List, [], length, map, get_or}
use Rattle.std.proofs.Common.{replicate, Bool, true, false, cond, not, Some, refl, sym, ap, ◌∙◌, arith, subst, zero-add}
use Rattle.std.proofs.Common.{◌+◌}
use Rattle.std.specs.Prelude.{pos, ◌-ℤ◌, nat_eq, nat_lt, slice_get, filter}
use Rattle.std.specs.List.{All, AllByRecursion, range_with_len, sum_by}
use Rattle.std.specs.Int.{bit_at}
use Rattle.std.specs.Cmp.{unsigned_Decides}
use Rattle.std.proofs.Math.ListN.{get_or-map}
use Rattle.std.proofs.lemmas.Bool.{ltb-true, ltb-false}
use Rattle.std.proofs.lemmas.List.{length-map, get_or_past, length-replicate, get_or-replicate}
use Rattle.std.proofs.lemmas.List.Elements.{All-filter, recursion_from_All}
use Rattle.std.proofs.Math.Nat.{mul-le-mul}
use Rattle.scan_kernel.proofs.FoundLaws.{all_mapped}
use Rattle.std.proofs.lemmas.List.Sums.{length-filter, count_by-le-length}
use Rattle.ssb_base.specs.Base.{Dimensions, Tables, IsSound, IsKnown}
use Rattle.ssb_schema.specs.declared.table.Table.TheVariants as table
use Rattle.ssb_schema.specs.declared.fact.Fact.{Fact}
use Rattle.ssb_schema.specs.declared.line.LineFields.{LineFields}
use Rattle.ssb_questions.specs.Members.{Has}
use Rattle.ssb_questions.specs.declared.plan.Measure.{Measure}
use Rattle.ssb_questions.specs.declared.plan.Measure.TheVariants.{PriceTimesDiscount, Revenue, Profit, Quantity}
use Rattle.ssb_questions.specs.declared.plan.Measure.TheVariants.{ExtendedPrice, SupplyCost, Lines}
use Rattle.ssb_questions.specs.declared.plan.Plan.{Plan}
use Rattle.ssb_questions.specs.declared.query.Query.{Query}
use Rattle.ssb_questions.specs.declared.value.Value.{Value}
use Rattle.ssb_questions.specs.Queries.{plan_over}
use Rattle.ssb_answers.specs.Answer.{answer_of}
use Rattle.ssb_answers.specs.Combination.{Combination, combinations}
use Rattle.ssb_answers.specs.declared.answer.ResultRow.{ResultRow}
use Rattle.ssb_answers.proofs.MemberLaws.{has_from_map}
use Rattle.fact_columns.specs.declared.place.Place.{Place}
use Rattle.fact_columns.specs.Places.{IsWithin, is_live, fact_at, live_facts, quantity_in, discount_in}
use Rattle.fact_columns.proofs.FilterLaws.{live_facts_that_pass}
use Rattle.scan_kernel.specs.declared.columns.LineColumns.{LineColumns}
use Rattle.scan_kernel.specs.declared.columns.Grouping.{Grouping}
use Rattle.scan_kernel.specs.declared.columns.GroupColumn.{GroupColumn}
use Rattle.scan_kernel.specs.declared.masks.Masks.{Masks}
use Rattle.scan_kernel.specs.declared.totals.Totals.{Totals}
use Rattle.scan_kernel.specs.Places.{has_bit, group_at, gain_at, loss_at}
use Rattle.scan_kernel.specs.Sums.{Adds}
use Rattle.scan_kernel.specs.Totals.{AreTotals, taken}
use Rattle.scan_kernel.specs.Combined.{combine, passes_line}
use Rattle.scan_kernel.specs.Groups.{size_of, counts_of, group_number, ListValues}
use Rattle.scan_kernel.specs.Lines.{takes}
use Rattle.scan_kernel.specs.Scan.{AnswersLines, line_sum}
use Rattle.scan_kernel.proofs.CombinedLaws.{filter_mapped, combines_each_line}
use Rattle.scan_kernel.proofs.DenseLaws.{has_from_filter, filter_agree_on, range_has}
use Rattle.scan_kernel.proofs.LineLaws.{filter_both, sum_ones}
use Rattle.fact_columns.proofs.FactCountLaws.{line_of, facts_of_lines}
use Rattle.shared_scan.specs.Prepared.{AreMasksOf, IsGroupingBy}
use Rattle.shared_scan.specs.Summed.{IsSummed, AreSummed}
use Rattle.shared_scan.specs.Laws.{AreLinesOf}
use Rattle.shared_scan.proofs.RowLaws.{known_key}
use Rattle.shared_scan.proofs.LineLaws.{nowhere, rows_stand, mask_is, live_mask, free_mask, place_mask}
use Rattle.shared_scan.proofs.NumberLaws.{number_is}
use Rattle.ssb_answers.specs.Totals.{most}
use Rattle.ssb_base.specs.Limits.{most_lines}
use Rattle.shared_scan.proofs.SumLaws.{list_at, map_twice, sum_mapped, gain_of, loss_of, line_sum_is, exact, bounded}

-- any combination
abbrev pub blank : Combination
blank = record {
  fact = record {
    order_key = 0;
    customer = 0;
    supplier = 0;
    part = 0;
    date = 0;
    quantity = 0;
    discount = 0;
    price = 0;
    revenue = 0;
    cost = 0;
  };
  customer = record {
    key = 0;
    name = [];
    address = [];
    city = [];
    nation = [];
    region = [];
    phone = [];
    market_segment = [];
  };
  supplier = record { key = 0; name = []; address = []; city = []; nation = []; region = []; phone = [] };
  part = record {
    key = 0;
    name = [];
    manufacturer = [];
    category = [];
    brand = [];
    color = [];
    part_type = [];
    size = [];
    container = [];
  };
  date = record {
    key = 0;
    date_text = [];
    day_of_week = [];
    month = [];
    year = 0;
    year_month_number = 0;
    year_month = [];
    day_in_week = [];
    day_in_month = [];
    day_in_year = [];
    month_in_year = [];
    week = 0;
    selling_season = [];
    last_day_in_week_flag = [];
    last_day_in_month_flag =
        [];
    holiday_flag = [];
    weekday_flag = [];
  };
}

bit_of_test : (b : Bool) → nat_eq (cond b 1 0) 1 ≡ b
bit_of_test true = refl
bit_of_test false = refl

-- what a place adds and takes away
pub gain_is : (dimensions : Dimensions) (places : List Place) (lines : LineColumns) (measure : Measure) (i : ℕ)
    → AreLinesOf places lines → gain_at lines measure i ≡ gain_of measure (fact_at dimensions (get_or places i nowhere))
gain_is dimensions places lines PriceTimesDiscount i are =
    let price = ap (λ (xs : List ℕ). get_or xs i 0) are.prices_are
    ∙ get_or-map (λ (p : Place). p.price) places i nowhere in
    let terms = ap (λ (xs : List ℕ). get_or xs i 0) are.terms_are
    ∙ get_or-map (λ (p : Place). p.terms) places i nowhere in
    λ j. price j * (terms j % 16)
gain_is dimensions places lines Revenue i are = ap (λ (xs : List ℕ). get_or xs i 0) are.revenues_are
    ∙ get_or-map (λ (p : Place). p.revenue) places i nowhere
gain_is dimensions places lines Profit i are = ap (λ (xs : List ℕ). get_or xs i 0) are.revenues_are
    ∙ get_or-map (λ (p : Place). p.revenue) places i nowhere
gain_is dimensions places lines Quantity i are =
    let terms = ap (λ (xs : List ℕ). get_or xs i 0) are.terms_are
    ∙ get_or-map (λ (p : Place). p.terms) places i nowhere in
    λ j. terms j / 16
gain_is dimensions places lines ExtendedPrice i are = ap (λ (xs : List ℕ). get_or xs i 0) are.prices_are
    ∙ get_or-map (λ (p : Place). p.price) places i nowhere
gain_is dimensions places lines SupplyCost i are = ap (λ (xs : List ℕ). get_or xs i 0) are.costs_are
    ∙ get_or-map (λ (p : Place). p.cost) places i nowhere
gain_is dimensions places lines Lines i are = refl

pub loss_is : (dimensions : Dimensions) (places : List Place) (lines : LineColumns) (measure : Measure) (i : ℕ)
    → AreLinesOf places lines → loss_at lines measure i ≡ loss_of measure (fact_at dimensions (get_or places i nowhere))
loss_is dimensions places lines PriceTimesDiscount i are = refl
loss_is dimensions places lines Revenue i are = refl
loss_is dimensions places lines Profit i are = ap (λ (xs : List ℕ). get_or xs i 0) are.costs_are
    ∙ get_or-map (λ (p : Place). p.cost) places i nowhere
loss_is dimensions places lines Quantity i are = refl
loss_is dimensions places lines ExtendedPrice i are = refl
loss_is dimensions places lines SupplyCost i are = refl
loss_is dimensions places lines Lines i are = refl

-- the numbers of a place, and of none, are those of lines
record AreSmall (place : Place) : Type 0 where
  quantity : quantity_in place.terms ≤ 50
  discount : discount_in place.terms ≤ 10
  price : place.price < 2 ^ 32
  revenue : place.revenue < 2 ^ 32
  cost : place.cost < 2 ^ 32

small_at : (dimensions : Dimensions) (places : List Place) (i : ℕ) → All (IsWithin dimensions) places
    → AreSmall (get_or places i nowhere)
small_at dimensions places i within = grind (arith, nowhere, ltb-true, get_or_past, ltb-false)

gain_small : (dimensions : Dimensions) (places : List Place) (measure : Measure) (i : ℕ)
    → All (IsWithin dimensions) places → gain_of measure (fact_at dimensions (get_or places i nowhere)) ≤ most
gain_small dimensions places PriceTimesDiscount i within =
    let place = get_or places i nowhere in
    let small = small_at dimensions places i within in
    let price : place.price ≤ 4294967295 = omega (arith, small.price) in
    omega (arith, mul-le-mul price small.discount)
gain_small dimensions places Revenue i within = omega (arith, (small_at dimensions places i within).revenue)
gain_small dimensions places Profit i within = omega (arith, (small_at dimensions places i within).revenue)
gain_small dimensions places Quantity i within = omega (arith, (small_at dimensions places i within).quantity)
gain_small dimensions places ExtendedPrice i within = omega (arith, (small_at dimensions places i within).price)
gain_small dimensions places SupplyCost i within = omega (arith, (small_at dimensions places i within).cost)
gain_small dimensions places Lines i within = omega arith

loss_small : (dimensions : Dimensions) (places : List Place) (measure : Measure) (i : ℕ)
    → All (IsWithin dimensions) places → loss_of measure (fact_at dimensions (get_or places i nowhere)) ≤ most
loss_small dimensions places PriceTimesDiscount i within = omega arith
loss_small dimensions places Revenue i within = omega arith
loss_small dimensions places Profit i within = omega (arith, (small_at dimensions places i within).cost)
loss_small dimensions places Quantity i within = omega arith
loss_small dimensions places ExtendedPrice i within = omega arith
loss_small dimensions places SupplyCost i within = omega arith
loss_small dimensions places Lines i within = omega arith

known_at : (dimensions : Dimensions) (place : Place) → IsWithin dimensions place
    → IsKnown dimensions (line_of (fact_at dimensions place))
known_at dimensions place within = grind (arith, known_key)

pub known_all : (dimensions : Dimensions) (places : List Place) → All (IsWithin dimensions) places
    → All (IsKnown dimensions) (map line_of (live_facts dimensions places))
known_all dimensions places within =
    let live = filter is_live places in
    let P : LineFields → Type 0 = IsKnown dimensions in
    let Q : Place → Type 0 = λ place. IsKnown dimensions (line_of (fact_at dimensions place)) in
    let each : All Q places = λ k e below. known_at dimensions (get_or places k e) (within k e below) in
    all_mapped _ _ P line_of (map (fact_at dimensions) live)
    (all_mapped _ _ (λ f. P (line_of f)) (fact_at dimensions) live (All-filter is_live Q places each))

and_assoc : (a b c : Bool) → (a && (b && c)) ≡ ((a && b) && c)
and_assoc true b c = refl
and_assoc false b c = refl

module _ (base : Tables) (question : Query × List Value) (plans : List Plan) (k : ℕ) (places : List Place)
    (lines : LineColumns) (masks : Masks) (columns : List (List Value)) (measure : Measure) (groups : List GroupColumn)
    (size : ℕ)
    (sound : IsSound base) (within : All (IsWithin base.dimensions) places) (are : AreLinesOf places lines)
    (at_k : slice_get plans k ≡ Some (plan_over question.0 question.1)) (tell : AreMasksOf plans base.dimensions masks)
    (grouped : IsGroupingBy base masks k lines (plan_over question.0 question.1) columns measure groups size)
    (dims : AllByRecursion (λ column. column.table ≡ table.Lineorder → ⊥) (plan_over question.0 question.1).groups)
  where
    abbrev pub plan : Plan
    plan = plan_over question.0 question.1

    abbrev pub d : Dimensions
    d = base.dimensions

    abbrev pub at : ℕ → Place
    at i = get_or places i nowhere

    abbrev pub fact : ℕ → Fact
    fact i = fact_at d (at i)

    abbrev pub number : Combination → ℕ
    number = group_number plan.groups columns

    abbrev pub bit : ℕ → Bool
    bit = has_bit lines masks k

    abbrev pub takes_fact : ℕ → Fact → Bool
    takes_fact g = takes plan blank d number g

    -- a place has the bit where it is live and its line passes
    pub bit_is : (i : ℕ) → i < length places → bit i ≡ (is_live (at i) && passes_line plan blank d (fact i))
    bit_is i below =
        elim (nat_eq (quantity_in (at i).terms) 0) as (λ b. nat_eq (quantity_in (at i).terms) 0 ≡ b
        → bit i ≡ (not b && passes_line plan blank d (fact i))) [
          | true ↦ λ e. let free : quantity_in (at i).terms ≡ 0 = (unsigned_Decides (quantity_in (at i).terms) 0).0 e in
              ap (λ (m : ℕ). nat_eq (bit_at m k) 1) (mask_is places lines masks i are)
              ∙ ap (λ (m : ℕ). nat_eq m 1) (free_mask plans d masks (at i) k tell free)
          | false ↦ λ e. let live : 0 < quantity_in (at i).terms = positive (quantity_in (at i).terms) e in
              let in_place : IsWithin d (at i) = within i nowhere below in
              ap (λ (m : ℕ). nat_eq (bit_at m k) 1) (mask_is places lines masks i are)
              ∙ ap (λ (m : ℕ). nat_eq m 1) (live_mask base plans masks (combine blank d (fact i)) (at i) tell
              (rows_stand base blank (at i) sound in_place) in_place refl live k plan at_k)
              ∙ bit_of_test (passes_line plan blank d (fact i))
        ] refl
      where
        positive : (n : ℕ) → nat_eq n 0 ≡ false → 0 < n
        positive zero e = cc
        positive (suc n) e = omega arith

    -- where it has the bit, its group's number is the combination's
    bit_set : (i : ℕ) → bit i ≡ true → bit_at (place_mask masks (at i)) k ≡ 1
    bit_set i e = (unsigned_Decides (bit_at (place_mask masks (at i)) k) 1).0
        (ap (λ (m : ℕ). nat_eq (bit_at m k) 1) (sym (mask_is places lines masks i are)) ∙ e)

    pub group_is : (i : ℕ) → i < length places → bit i ≡ true
        → ListValues plan.groups columns (combine blank d (fact i))
        × (group_at groups i ≡ number (combine blank d (fact i)))
    group_is i below e =
        number_is base masks k places lines are i (combine blank d (fact i))
        (rows_stand base blank (at i) sound (within i nowhere below)) (bit_set i e) plan.groups columns groups dims
        grouped.parts_are

    in_range : (i : ℕ) → Has (range_with_len 0 (length places)) i → i < length places
    in_range i h = omega (arith, (range_has (length places) 0 i h).1)

    -- the facts that the question takes, by place
    facts_by_place : (test : Fact → Bool) (own : ℕ → Bool)
        → ((i : ℕ) → i < length places → (is_live (at i) && test (fact i)) ≡ own i)
        → filter test (live_facts d places) ≡ map fact (filter own (range_with_len 0 (length places)))
    facts_by_place test own agree =
        let live_test : Place → Bool = λ p. is_live p && test (fact_at d p) in
        live_facts_that_pass d test places
        ∙ ap (λ (ps : List Place). map (fact_at d) (filter live_test ps)) (sym (list_at places nowhere))
        ∙ ap (map (fact_at d)) (filter_mapped live_test at (range_with_len 0 (length places)))
        ∙ map_twice (fact_at d) at (filter (λ i. live_test (at i)) (range_with_len 0 (length places)))
        ∙ ap (map fact) (filter_agree_on (λ i. live_test (at i)) own (range_with_len 0 (length places))
        (λ i h. agree i (in_range i h)))

    abbrev pub of_group : ℕ → List ℕ
    of_group g = filter (λ i. nat_eq (group_at groups i) g) (filter bit (range_with_len 0 (length places)))

    agree_on : (g i : ℕ) → i < length places → (is_live (at i) && takes_fact g (fact i))
        ≡ (bit i && nat_eq (group_at groups i) g)
    agree_on g i below =
        and_assoc (is_live (at i)) (passes_line plan blank d (fact i)) (nat_eq (number (combine blank d (fact i))) g)
        ∙ ap (λ (b : Bool). b && nat_eq (number (combine blank d (fact i))) g) (sym (bit_is i below))
        ∙ elim (bit i) as (λ b. bit i ≡ b → (b && nat_eq (number (combine blank d (fact i))) g)
        ≡ (b && nat_eq (group_at groups i) g)) [
          | true ↦ λ e. ap (λ (m : ℕ). nat_eq m g) (sym (group_is i below e).1)
          | false ↦ λ e. refl
        ] refl

    pub taken_is : (g : ℕ) → filter (takes_fact g) (live_facts d places) ≡ map fact (of_group g)
    taken_is g =
        facts_by_place (takes_fact g) (λ i. bit i && nat_eq (group_at groups i) g) (agree_on g)
        ∙ ap (map fact) (sym (filter_both bit (λ i. nat_eq (group_at groups i) g) (range_with_len 0 (length places))))

    passing_is : filter (passes_line plan blank d) (live_facts d places) ≡ map fact
        (filter bit (range_with_len 0 (length places)))
    passing_is = facts_by_place (passes_line plan blank d) bit (λ i below. sym (bit_is i below))

    lists_at : (i : ℕ) → Has (filter bit (range_with_len 0 (length places))) i
        → ListValues plan.groups columns (combine blank d (fact i))
    lists_at i h =
        let in_filter = has_from_filter bit (range_with_len 0 (length places)) i h in
        (group_is i (in_range i in_filter.1) in_filter.0).0

    module _ (count gain loss : ℕ → ℕ) (few : length (live_facts d places) ≤ most_lines)
        (summed : AreSummed lines masks k measure groups size (range_with_len 0 (length places)) count gain loss) where
      some_of_all : (g : ℕ) → length (of_group g) ≤ most_lines
      some_of_all g =
          let same : length (of_group g) ≡ length (filter (takes_fact g) (live_facts d places)) =
          sym (length-map (of_group g) fact) ∙ ap length (sym (taken_is g)) in
          omega (
            arith,
            same,
            length-filter (takes_fact g) (live_facts d places),
            count_by-le-length (takes_fact g) (live_facts d places),
            few,
          )

      in_size : (g : ℕ) → g < size_of (counts_of columns) → g < size
      in_size g below = subst (λ (n : ℕ). g < n) (sym grouped.size_is) below

      counts_are : (g : ℕ) → g < size_of (counts_of columns)
          → count g ≡ length (filter (takes_fact g) (live_facts d places))
      counts_are g below =
          exact (count g) (sum_by (λ (i : ℕ). 1) (of_group g)) (summed.counts.each g (in_size g below))
          (summed.counts.fits g)
          (bounded (λ (i : ℕ). 1) 1 most_lines (2 ^ 64) (of_group g) (λ i. omega arith) (some_of_all g) (omega arith))
          ∙ sum_ones (of_group g) ∙ sym (length-map (of_group g) fact) ∙ ap length (sym (taken_is g))

      pub gains_are : (g : ℕ) → g < size_of (counts_of columns)
          → gain g ≡ sum_by (gain_of plan.measure) (filter (takes_fact g) (live_facts d places))
      gains_are g below =
          let amount : ℕ → ℕ = gain_at lines measure in
          let same : (i : ℕ) → amount i ≡ gain_of plan.measure (fact i) =
          λ i. gain_is d places lines measure i are ∙ ap (λ (m : Measure). gain_of m (fact i)) grouped.measures in
          let small : (i : ℕ) → amount i ≤ most = λ i. subst (λ (n : ℕ). n ≤ most) (sym (same i))
          (gain_small d places plan.measure i within) in
          exact (gain g) (sum_by amount (of_group g)) (summed.gains.each g (in_size g below)) (summed.gains.fits g)
          (bounded amount most most_lines (2 ^ 64) (of_group g) small (some_of_all g) (omega arith))
          ∙ sym (sum_mapped (gain_of plan.measure) fact amount same (of_group g))
          ∙ ap (sum_by (gain_of plan.measure)) (sym (taken_is g))

      pub losses_are : (g : ℕ) → g < size_of (counts_of columns)
          → loss g ≡ sum_by (loss_of plan.measure) (filter (takes_fact g) (live_facts d places))
      losses_are g below =
          let amount : ℕ → ℕ = loss_at lines measure in
          let same : (i : ℕ) → amount i ≡ loss_of plan.measure (fact i) =
          λ i. loss_is d places lines measure i are ∙ ap (λ (m : Measure). loss_of m (fact i)) grouped.measures in
          let small : (i : ℕ) → amount i ≤ most = λ i. subst (λ (n : ℕ). n ≤ most) (sym (same i))
          (loss_small d places plan.measure i within) in
          exact (loss g) (sum_by amount (of_group g)) (summed.losses.each g (in_size g below)) (summed.losses.fits g)
          (bounded amount most most_lines (2 ^ 64) (of_group g) small (some_of_all g) (omega arith))
          ∙ sym (sum_mapped (loss_of plan.measure) fact amount same (of_group g))
          ∙ ap (sum_by (loss_of plan.measure)) (sym (taken_is g))

      -- what is added up of any measure, and its difference, fits 64 bits with a sign
      small_sum : (amount sum : ℕ → ℕ) (g : ℕ) → IsSummed amount (group_at groups) size
          (filter bit (range_with_len 0 (length places))) sum → ((i : ℕ) → amount i ≤ most) → sum g < 2 ^ 63
      small_sum amount sum g adds small =
          elim (nat_lt g size) as (λ b. nat_lt g size ≡ b → sum g < 2 ^ 63) [
            | true ↦ λ e. let below : g < size = ltb-true g size e in
                let is = exact (sum g) (sum_by amount (of_group g)) (adds.each g below) (adds.fits g)
                (bounded amount most most_lines (2 ^ 64) (of_group g) small (some_of_all g) (omega arith)) in
                omega (
                  arith,
                  is,
                  bounded amount most most_lines (2 ^ 63) (of_group g) small (some_of_all g)
                      (omega arith),
                )
            | false ↦ λ e. omega (arith, adds.past g (ltb-false g size e))
          ] refl

      pub gains_small : (g : ℕ) → gain g < 2 ^ 63
      gains_small g =
          small_sum (gain_at lines measure) gain g summed.gains
          (λ i. subst (λ (n : ℕ). n ≤ most) (sym (gain_is d places lines measure i are))
          (gain_small d places measure i within))

      pub losses_small : (g : ℕ) → loss g < 2 ^ 63
      losses_small g =
          small_sum (loss_at lines measure) loss g summed.losses
          (λ i. subst (λ (n : ℕ). n ≤ most) (sym (loss_is d places lines measure i are))
          (loss_small d places measure i within))

      lists_all : (c : Combination) → Has (combinations plan d (live_facts d places)) c
          → ListValues plan.groups columns c
      lists_all c h =
          let known = recursion_from_All (IsKnown d) (map line_of (live_facts d places)) (known_all d places within) in
          let one_each : combinations plan d (live_facts d places) ≡ map (combine blank d)
          (filter (passes_line plan blank d) (live_facts d places)) =
          subst (λ (fs : List Fact). combinations plan d fs ≡ map (combine blank d)
          (filter (passes_line plan blank d) fs)) (facts_of_lines (live_facts d places))
          (combines_each_line blank plan base (map line_of (live_facts d places)) sound known) in
          let by_place : combinations plan d (live_facts d places) ≡ map (λ i. combine blank d (fact i))
          (filter bit (range_with_len 0 (length places))) =
          one_each ∙ ap (map (combine blank d)) passing_is
          ∙ map_twice (combine blank d) fact (filter bit (range_with_len 0 (length places))) in
          let member = has_from_map (λ i. combine blank d (fact i)) (filter bit (range_with_len 0 (length places))) c
          (subst (λ (cs : List Combination). Has cs c) by_place h) in
          subst (ListValues plan.groups columns) (sym member.2) (lists_at member.0 member.1)

      pub summed_answer : (rows : List ResultRow) → AnswersLines question columns count
          (λ g. pos (gain g) -ℤ pos (loss g)) rows → rows ≡ answer_of question d (live_facts d places)
      summed_answer rows right =
          let all = live_facts d places in
          let made = map line_of all in
          let back = facts_of_lines all in
          right blank base made sound (known_all d places within) grouped.apart
          (λ c h. lists_all c (subst (λ (fs : List Fact). Has (combinations plan d fs) c) back h))
          (λ g below. counts_are g below ∙ ap (λ (fs : List Fact). length (filter (takes_fact g) fs)) (sym back))
          (λ g below. (λ j. pos (gains_are g below j) -ℤ pos (losses_are g below j))
          ∙ line_sum_is plan.measure (filter (takes_fact g) all)
          ∙ ap (λ (fs : List Fact). line_sum plan.measure (filter (takes_fact g) fs)) (sym back))
          ∙ ap (answer_of question d) back

-- totals that have a number for each group are its sums
summed_list : (amount group : ℕ → ℕ) (size : ℕ) (places new : List ℕ) → Adds amount group places (replicate size 0) new
    → ((g : ℕ) → get_or new g 0 < 2 ^ 64) → IsSummed amount group size places (λ g. get_or new g 0)
summed_list amount group size places new adds fits = grind (arith, length-replicate, get_or-replicate, zero-add, get_or_past)

pub summed_totals : (lines : LineColumns) (masks : Masks) (k : ℕ) (grouping : Grouping) (places : List ℕ)
    (totals : Totals) → AreTotals lines masks k grouping places totals
    → ((g : ℕ) → get_or totals.counts.items g 0 < 2 ^ 64) → ((g : ℕ) → get_or totals.gains.items g 0 < 2 ^ 64)
    → ((g : ℕ) → get_or totals.losses.items g 0 < 2 ^ 64)
    → AreSummed lines masks k grouping.measure grouping.columns.items grouping.size places
    (λ g. get_or totals.counts.items g 0) (λ g. get_or totals.gains.items g 0) (λ g. get_or totals.losses.items g 0)
summed_totals lines masks k grouping places totals summed counts_fit gains_fit losses_fit =
    let at : List ℕ = taken lines masks k places in
    record {
      counts = summed_list _ (group_at grouping.columns.items) grouping.size at totals.counts.items summed.counts_are
          counts_fit;
      gains = summed_list _ (group_at grouping.columns.items) grouping.size at totals.gains.items summed.gains_are
          gains_fit;
      losses = summed_list _ (group_at grouping.columns.items) grouping.size at totals.losses.items summed.losses_are
          losses_fit;
    }
