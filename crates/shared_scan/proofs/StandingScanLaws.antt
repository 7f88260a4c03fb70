-- Totals over all places of the columns are those of the live lines, and the other way round.
use Rattle.std.proofs.Common.{ℕ, suc, ◌≡◌, ◌+◌, ◌%◌, ◌^◌, ◌<◌, ◌&&◌, Bool, true, false, cond, List, [], ◌∷◌}
use Rattle.std.proofs.Common.{length, map, get_or, replicate, refl, sym, ap, ◌∙◌, subst, arith, zero-add}
use Rattle.std.specs.Prelude.{nat_eq, filter}
use Rattle.std.specs.Int.{bit_at}
use Rattle.std.specs.List.{range_with_len, sum_by}
use Rattle.std.proofs.Math.ListN.{get_or-map}
use Rattle.std.proofs.Math.Nat.{mod-eq_of_lt}
use Rattle.std.proofs.lemmas.List.{length-map, length-replicate, get_or-replicate}
use Rattle.std.proofs.lemmas.List.Sums.{sum_by-cons}
use Rattle.ssb_base.specs.Base.{Tables, Dimensions}
use Rattle.ssb_schema.specs.declared.column.Column.{Column}
use Rattle.ssb_schema.specs.declared.table.Table.{Table}
use Rattle.ssb_schema.specs.declared.table.Table.TheVariants as table
use Rattle.ssb_questions.specs.declared.plan.Measure.{Measure}
use Rattle.ssb_questions.specs.declared.plan.Measure.TheVariants.{PriceTimesDiscount, Revenue, Profit, Quantity}
use Rattle.ssb_questions.specs.declared.plan.Measure.TheVariants.{ExtendedPrice, SupplyCost, Lines}
use Rattle.ssb_questions.specs.declared.plan.Plan.{Plan}
use Rattle.fact_columns.specs.declared.place.Place.{Place}
use Rattle.fact_columns.specs.declared.scanned_line.ScannedLine.{ScannedLine}
use Rattle.fact_columns.specs.Places.{is_live, fact_at}
use Rattle.fact_columns.specs.Columns.{AreColumnsOf}
use Rattle.scan_kernel.specs.declared.columns.LineColumns.{LineColumns}
use Rattle.scan_kernel.specs.declared.columns.Grouping.{Grouping}
use Rattle.scan_kernel.specs.declared.columns.GroupColumn.{GroupColumn}
use Rattle.scan_kernel.specs.declared.masks.Masks.{Masks}
use Rattle.scan_kernel.specs.declared.totals.Totals.{Totals}
use Rattle.scan_kernel.specs.Places.{has_bit, part_at, group_at, gain_at, loss_at}
use Rattle.scan_kernel.specs.Sums.{Adds, sum_in}
use Rattle.scan_kernel.specs.Totals.{CanSum, AreTotals, taken}
use Rattle.shared_scan.specs.Prepared.{AreMasksOf, positions_in}
use Rattle.shared_scan.specs.Classed.{classed}
use Rattle.shared_scan.specs.Laws.{AreLinesOf}
use Rattle.shared_scan.specs.GroupColumns.{IsGroupColumn, AreGroupColumns}
use Rattle.shared_scan.specs.Groupings.{IsGroupingWith}
use Rattle.shared_scan.specs.declared.ready.Ready.{Ready}
use Rattle.shared_scan.specs.declared.parts.Parts.{Parts}
use Rattle.shared_scan.specs.declared.parts.Parts.TheVariants.{Narrow, Wide}
use Rattle.shared_scan.specs.Standing.{takes_line, class_in, part_of_line, parts_of_line, group_with, group_of_line}
use Rattle.shared_scan.specs.Standing.{gain_in, loss_in, share, size_with, AreSumsOf, AreTotalsOver}
use Rattle.fact_columns.specs.Watching.{live_places, live_lines, scanned_line}
use Rattle.shared_scan.proofs.LineLaws.{nowhere, mask_is, free_mask, place_mask}
use Rattle.shared_scan.proofs.TotalLaws.{gain_is, loss_is}
use Rattle.shared_scan.proofs.SumLaws.{gain_of, loss_of}
use Rattle.shared_scan.proofs.ClassedLaws.{lines_classed}

-- the sum of what passes two tests, as a sum of shares
pub sums_shared : {X : Type 0} (takes : X → Bool) (group amount : X → ℕ) (g : ℕ) (xs : List X)
    → sum_by amount (filter (λ x. nat_eq (group x) g) (filter takes xs)) ≡ sum_by
    (λ x. share (takes x) (group x) g (amount x)) xs
sums_shared takes group amount g [] = refl
sums_shared {X} takes group amount g (x ∷ xs) =
    step (takes x) (nat_eq (group x) g) refl
    ∙ ap (λ (v : ℕ). mine x + v) (sums_shared takes group amount g xs) ∙ sym (sum_by-cons mine x xs)
  where
    mine : X → ℕ
    mine y = share (takes y) (group y) g (amount y)

    among : List X → List X
    among ys = filter (λ y. nat_eq (group y) g) ys

    step : (b c : Bool) → nat_eq (group x) g ≡ c
        → sum_by amount (among (cond b (x ∷ filter takes xs) (filter takes xs))) ≡ cond (b && c) (amount x) 0
        + sum_by amount (among (filter takes xs))
    step true true is = ap (λ (d : Bool). sum_by amount (cond d (x ∷ among (filter takes xs)) (among
        (filter takes xs))))
        is ∙ sum_by-cons amount x (among (filter takes xs))
    step true false is = ap (λ (d : Bool). sum_by amount
        (cond d (x ∷ among (filter takes xs)) (among (filter takes xs)))) is
        ∙ sym (zero-add (sum_by amount (among (filter takes xs))))
    step false c is = sym (zero-add (sum_by amount (among (filter takes xs))))

-- a sum over the indices of places is one over the places
pub sum_range : (f : ℕ → ℕ) (h : Place → ℕ) (places : List Place) (from : ℕ)
    → ((i : ℕ) → i < length places → f (from + i) ≡ h (get_or places i nowhere))
    → sum_by f (range_with_len from (length places)) ≡ sum_by h places
sum_range f h [] from same = refl
sum_range f h (place ∷ places) from same =
    let first : f from ≡ h place = ap f (omega arith) ∙ same 0 (omega arith) in
    let rest : sum_by f (range_with_len (from + 1) (length places)) ≡ sum_by h places =
    sum_range f h places (from + 1) (λ i below. ap f (omega arith) ∙ same (suc i) (omega (arith, below))) in
    sum_by-cons f from (range_with_len (from + 1) (length places)) ∙ (λ j. first j + rest j)
    ∙ sym (sum_by-cons h place places)

-- places that add nothing may be left out
pub sum_live : (h : ScannedLine → ℕ) (places : List Place)
    → ((place : Place) → is_live place ≡ false → h (scanned_line place) ≡ 0)
    → sum_by (λ place. h (scanned_line place)) places ≡ sum_by h (live_lines places)
sum_live h [] dead = refl
sum_live h (place ∷ places) dead =
    sum_by-cons read place places ∙ step (sum_live h places dead) (is_live place) refl
  where
    read : Place → ℕ
    read p = h (scanned_line p)

    step : sum_by read places ≡ sum_by h (live_lines places) → (b : Bool) → is_live place ≡ b → read place
        + sum_by read places ≡ sum_by h (map scanned_line (cond b (place ∷ live_places places) (live_places places)))
    step rest true e = ap (λ (v : ℕ). read place + v) rest
        ∙ sym (sum_by-cons h (scanned_line place) (live_lines places))
    step rest false e = ap (λ (v : ℕ). v + sum_by read places) (dead place e) ∙ zero-add (sum_by read places) ∙ rest

-- equal parts make equal shares; the group counts only where the line is taken
share_same : (b c : Bool) (p q g a d : ℕ) → b ≡ c → (b ≡ true → p ≡ q) → a ≡ d → share b p g a ≡ share c q g d
share_same true c p q g a d e same amount = λ j. share (e j) (same refl j) g (amount j)
share_same false c p q g a d e same amount = λ j. share (e j) q g (amount j)

gain_same : (d : Dimensions) (measure : Measure) (place : Place) → gain_of measure (fact_at d (classed place)) ≡ gain_in
    measure (scanned_line place)
gain_same d PriceTimesDiscount place = refl
gain_same d Revenue place = refl
gain_same d Profit place = refl
gain_same d Quantity place = refl
gain_same d ExtendedPrice place = refl
gain_same d SupplyCost place = refl
gain_same d Lines place = refl

loss_same : (d : Dimensions) (measure : Measure) (place : Place) → loss_of measure (fact_at d (classed place)) ≡ loss_in
    measure (scanned_line place)
loss_same d PriceTimesDiscount place = refl
loss_same d Revenue place = refl
loss_same d Profit place = refl
loss_same d Quantity place = refl
loss_same d ExtendedPrice place = refl
loss_same d SupplyCost place = refl
loss_same d Lines place = refl

module _ (base : Tables) (places : List Place) (lines : LineColumns) (are : AreColumnsOf places lines) where
  abbrev place_at : ℕ → Place
  place_at i = get_or places i nowhere

  abbrev at : ℕ → ScannedLine
  at i = scanned_line (place_at i)

  classed_at : (i : ℕ) → get_or (map classed places) i nowhere ≡ classed (place_at i)
  classed_at i = get_or-map classed places i nowhere

  own : AreLinesOf (map classed places) lines
  own = lines_classed places lines are

  bit_same : (masks : Masks) (k i : ℕ) → has_bit lines masks k i ≡ takes_line masks k (at i)
  bit_same masks k i = ap (λ (m : ℕ). nat_eq (bit_at m k) 1)
      (mask_is (map classed places) lines masks i own ∙ ap (place_mask masks) (classed_at i))

  gain_at_is : (measure : Measure) (i : ℕ) → gain_at lines measure i ≡ gain_in measure (at i)
  gain_at_is measure i = gain_is base.dimensions (map classed places) lines measure i own
      ∙ ap (λ (p : Place). gain_of measure (fact_at base.dimensions p)) (classed_at i)
      ∙ gain_same base.dimensions measure (place_at i)

  loss_at_is : (measure : Measure) (i : ℕ) → loss_at lines measure i ≡ loss_in measure (at i)
  loss_at_is measure i = loss_is base.dimensions (map classed places) lines measure i own
      ∙ ap (λ (p : Place). loss_of measure (fact_at base.dimensions p)) (classed_at i)
      ∙ loss_same base.dimensions measure (place_at i)

  class_is : (t : Table) (i : ℕ) → get_or (positions_in t lines) i 0 ≡ class_in t (at i)
  class_is table.Customer i = ap (λ (xs : List ℕ). get_or xs i 0) are.customers
      ∙ get_or-map (λ (p : Place). p.customer_class) places i nowhere
  class_is table.Supplier i = ap (λ (xs : List ℕ). get_or xs i 0) are.suppliers
      ∙ get_or-map (λ (p : Place). p.supplier_class) places i nowhere
  class_is table.Part i = ap (λ (xs : List ℕ). get_or xs i 0) are.parts
      ∙ get_or-map (λ (p : Place). p.part_class) places i nowhere
  class_is table.Date i = ap (λ (xs : List ℕ). get_or xs i 0) are.dates
      ∙ get_or-map (λ (p : Place). p.date_class) places i nowhere
  class_is table.Lineorder i = ap (λ (xs : List ℕ). get_or xs i 0) are.dates
      ∙ get_or-map (λ (p : Place). p.date_class) places i nowhere

  part_is : (column : Column) (part : List ℕ) (group : GroupColumn) (i : ℕ)
      → IsGroupColumn base lines column part group → part_at i group ≡ part_of_line base column part (at i)
  part_is column part group i is = grind (arith, at, class_is)

  parts_are : (columns : List Column) (parts : List (List ℕ)) (groups : List GroupColumn) (i : ℕ)
      → AreGroupColumns base lines columns parts groups
      → group_at groups i ≡ parts_of_line base columns parts (at i)
  parts_are [] [] [] i h = refl
  parts_are [] [] (x ∷ groups) i h = absurd h
  parts_are [] (p ∷ parts) groups i h = absurd h
  parts_are (c ∷ columns) [] groups i h = absurd h
  parts_are (c ∷ columns) (p ∷ parts) [] i h = absurd h
  parts_are (c ∷ columns) (p ∷ parts) (x ∷ groups) i h = sum_by-cons (part_at i) x groups
      ∙ (λ j. part_is c p x i h.0 j + parts_are columns parts groups i h.1 j)

  module _ (plans : List Plan) (masks : Masks) (k : ℕ) (ready : Ready) (grouping : Grouping)
      (tell : AreMasksOf plans base.dimensions masks) (can : CanSum lines masks k grouping) where
    -- the number of a line's group, where it is taken
    group_same_with : (parts : Parts) → IsGroupingWith base lines ready parts grouping → (i : ℕ) → i < length places
        → has_bit lines masks k i ≡ true
        → group_at grouping.columns.items i ≡ group_with base ready.plan.groups parts (at i)
    group_same_with (Narrow parts) is i below bit = grind (arith, length-map, mod-eq_of_lt, parts_are)
    group_same_with (Wide parts) is i below bit = grind arith

    size_same_with : (parts : Parts) → IsGroupingWith base lines ready parts grouping
        → size_with parts ready.groups.size ≡ grouping.size
    size_same_with (Narrow parts) is = sym is.size_is
    size_same_with (Wide parts) is = sym is.one

    measure_same_with : (parts : Parts) → IsGroupingWith base lines ready parts grouping
        → grouping.measure ≡ ready.plan.measure
    measure_same_with (Narrow parts) is = is.measure_is
    measure_same_with (Wide parts) is = is.measure_is

    module _ (is : IsGroupingWith base lines ready ready.groups.parts grouping) where
      dead : (amount : ScannedLine → ℕ) (g : ℕ) (place : Place) → is_live place ≡ false
          → share (takes_line masks k (scanned_line place)) (group_of_line base ready (scanned_line place)) g
          (amount (scanned_line place)) ≡ 0
      dead amount g place e = grind (arith, free_mask)

      -- what question k sums up over all places is the sum over the live lines
      sum_same : (amount : ℕ → ℕ) (of_line : ScannedLine → ℕ) → ((i : ℕ) → amount i ≡ of_line (at i)) → (g : ℕ)
          → sum_in amount (group_at grouping.columns.items) g (taken lines masks k (range_with_len 0 (length places)))
          ≡ sum_by (λ line. share (takes_line masks k line) (group_of_line base ready line) g (of_line line))
          (live_lines places)
      sum_same amount of_line same g =
          sums_shared (has_bit lines masks k) (group_at grouping.columns.items) amount g
          (range_with_len 0 (length places))
          ∙ sum_range (λ i. share (has_bit lines masks k i) (group_at grouping.columns.items i) g (amount i))
          (λ place. share (takes_line masks k (scanned_line place)) (group_of_line base ready (scanned_line place)) g
          (of_line (scanned_line place))) places 0
          (λ i below. ap (λ (j : ℕ). share (has_bit lines masks k j) (group_at grouping.columns.items j) g (amount j))
          (zero-add i)
          ∙ share_same (has_bit lines masks k i) (takes_line masks k (at i)) (group_at grouping.columns.items i)
          (group_of_line base ready (at i)) g (amount i) (of_line (at i)) (bit_same masks k i)
          (group_same_with ready.groups.parts is i below) (same i))
          ∙ sum_live (λ line. share (takes_line masks k line) (group_of_line base ready line) g (of_line line)) places
          (dead of_line g)

      module _ (amount : ℕ → ℕ) (of_line : ScannedLine → ℕ) (same : (i : ℕ) → amount i ≡ of_line (at i))
          (numbers : List ℕ) where
        sums_to : AreSumsOf (takes_line masks k) (group_of_line base ready) of_line
            (size_with ready.groups.parts ready.groups.size) (live_lines places) numbers
            → Adds amount (group_at grouping.columns.items) (taken lines masks k (range_with_len 0 (length places)))
            (replicate grouping.size 0) numbers
        sums_to sums = record {
          len = sums.len ∙ size_same_with ready.groups.parts is ∙ sym (length-replicate {A = ℕ} grouping.size 0);
          each = λ g there.
              let below : g < grouping.size = omega (arith, there, length-replicate {A = ℕ} grouping.size 0) in
              let inside : g < length numbers = omega
              (arith, below, sums.len, size_same_with ready.groups.parts is) in
              let total : ℕ = sum_in amount (group_at grouping.columns.items) g
              (taken lines masks k (range_with_len 0 (length places))) in
              let none : get_or (replicate grouping.size 0) g 0 ≡ 0 = get_or-replicate grouping.size g 0 0 below in
              sums.each g inside ∙ ap (λ (v : ℕ). v % 2 ^ 64) (sym (sum_same amount of_line same g)
              ∙ sym (zero-add total) ∙ ap (λ (v : ℕ). v + total) (sym none));
        }

        sums_from : Adds amount (group_at grouping.columns.items)
            (taken lines masks k (range_with_len 0 (length places))) (replicate grouping.size 0) numbers
            → AreSumsOf (takes_line masks k) (group_of_line base ready) of_line
            (size_with ready.groups.parts ready.groups.size) (live_lines places) numbers
        sums_from adds = record {
          len = adds.len ∙ length-replicate {A = ℕ} grouping.size 0 ∙ sym (size_same_with ready.groups.parts is);
          each = λ g inside.
              let there : g < length (replicate grouping.size 0) = omega (arith, inside, adds.len) in
              let below : g < grouping.size = omega (arith, there, length-replicate {A = ℕ} grouping.size 0) in
              let total : ℕ = sum_in amount (group_at grouping.columns.items) g
              (taken lines masks k (range_with_len 0 (length places))) in
              let none : get_or (replicate grouping.size 0) g 0 ≡ 0 = get_or-replicate grouping.size g 0 0 below in
              adds.each g there ∙ ap (λ (v : ℕ). v % 2 ^ 64) (ap (λ (v : ℕ). v + total) none ∙ zero-add total
              ∙ sum_same amount of_line same g);
        }

      pub totals_to_scan : (totals : Totals) → AreTotalsOver base masks k ready (live_lines places) totals
          → AreTotals lines masks k grouping (range_with_len 0 (length places)) totals
      totals_to_scan totals over =
          let measure = measure_same_with ready.groups.parts is in
          let M : Measure → Type 0 = λ m. Adds (gain_at lines m) (group_at grouping.columns.items)
          (taken lines masks k (range_with_len 0 (length places))) (replicate grouping.size 0) totals.gains.items in
          let N : Measure → Type 0 = λ m. Adds (loss_at lines m) (group_at grouping.columns.items)
          (taken lines masks k (range_with_len 0 (length places))) (replicate grouping.size 0) totals.losses.items in
          record {
            counts_are = sums_to (λ i. 1) (λ line. 1) (λ i. refl) totals.counts.items over.counts;
            gains_are = subst M (sym measure) (sums_to (gain_at lines ready.plan.measure) (gain_in ready.plan.measure)
                (gain_at_is ready.plan.measure) totals.gains.items over.gains);
            losses_are = subst N (sym measure) (sums_to (loss_at lines ready.plan.measure) (loss_in ready.plan.measure)
                (loss_at_is ready.plan.measure) totals.losses.items over.losses);
          }

      pub totals_from_scan : (totals : Totals)
          → AreTotals lines masks k grouping (range_with_len 0 (length places)) totals
          → AreTotalsOver base masks k ready (live_lines places) totals
      totals_from_scan totals scanned =
          let measure = measure_same_with ready.groups.parts is in
          let M : Measure → Type 0 = λ m. Adds (gain_at lines m) (group_at grouping.columns.items)
          (taken lines masks k (range_with_len 0 (length places))) (replicate grouping.size 0) totals.gains.items in
          let N : Measure → Type 0 = λ m. Adds (loss_at lines m) (group_at grouping.columns.items)
          (taken lines masks k (range_with_len 0 (length places))) (replicate grouping.size 0) totals.losses.items in
          record {
            counts = sums_from (λ i. 1) (λ line. 1) (λ i. refl) totals.counts.items scanned.counts_are;
            gains = sums_from (gain_at lines ready.plan.measure) (gain_in ready.plan.measure)
                (gain_at_is ready.plan.measure) totals.gains.items (subst M measure scanned.gains_are);
            losses = sums_from (loss_at lines ready.plan.measure) (loss_in ready.plan.measure)
                (loss_at_is ready.plan.measure) totals.losses.items (subst N measure scanned.losses_are);
          }
