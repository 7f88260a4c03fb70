-- The number of the group of the line at a place is that of its combination.
use Rattle.std.proofs.Common.{ℕ, zero, suc, ◌≡◌, ◌+◌, ◌*◌, ◌<◌, ◌^◌, ◌/◌, ◌%◌, List, [], ◌∷◌, length, map, get_or}
use Rattle.std.proofs.Common.{Some, bit_and, refl, ap, ◌∙◌, arith}
use Rattle.std.specs.Prelude.{slice_get}
use Rattle.std.specs.List.{sum_by, AllByRecursion}
use Rattle.std.specs.Int.{bit_at}
use Rattle.std.proofs.Math.ListN.{get_or-map}
use Rattle.std.proofs.Math.Nat.{mod-lt}
use Rattle.std.proofs.lemmas.List.Sums.{sum_by-cons}
use Rattle.std.proofs.lemmas.Nat.Bits.{bit_at_and}
use Rattle.ssb_base.specs.Base.{Tables}
use Rattle.ssb_schema.specs.declared.column.Column.{Column}
use Rattle.ssb_schema.specs.declared.table.Table.{Table}
use Rattle.ssb_schema.specs.declared.table.Table.TheVariants as table
use Rattle.ssb_questions.specs.declared.value.Value.{Value}
use Rattle.ssb_answers.specs.Combination.{Combination, value_at}
use Rattle.dimension_index.specs.Values.{values_of}
use Rattle.fact_columns.specs.declared.place.Place.{Place}
use Rattle.scan_kernel.specs.declared.columns.LineColumns.{LineColumns}
use Rattle.scan_kernel.specs.declared.columns.GroupColumn.{GroupColumn}
use Rattle.scan_kernel.specs.declared.masks.Masks.{Masks}
use Rattle.scan_kernel.specs.Places.{mask_in, part_at, group_at}
use Rattle.scan_kernel.specs.Groups.{counts_of, sum_of_parts, group_codes, group_number, ListValues, code_in}
use Rattle.scan_kernel.proofs.GroupLaws.{codes_are_numbered}
use Rattle.shared_scan.specs.Prepared.{IsPart, AreParts, positions_in, masks_in}
use Rattle.shared_scan.specs.Laws.{AreLinesOf}
use Rattle.shared_scan.proofs.LineLaws.{nowhere, StandAt, place_mask}

mapped_at : {X Y : Type 0} (f : X → Y) (xs : List X) (p : ℕ) (x : X) → slice_get xs p ≡ Some x
    → slice_get (map f xs) p ≡ Some (f x)
mapped_at f [] p x e = cc
mapped_at f (y ∷ xs) zero x e = let same : y ≡ x = cc in ap (λ z. Some (f z)) same
mapped_at f (y ∷ xs) (suc p) x e = mapped_at f xs p x e

-- a bit of several joined by `and` is a bit of each
one_bit : (a b k : ℕ) → bit_at (bit_and a b) k ≡ 1 → (bit_at a k ≡ 1) × (bit_at b k ≡ 1)
one_bit a b k e = grind (arith, bit_at_and, mod-lt)

abbrev pub position_of_table : Place → Table → ℕ
position_of_table place table.Customer = place.customer
position_of_table place table.Supplier = place.supplier
position_of_table place table.Part = place.part
position_of_table place table.Date = place.date
position_of_table place table.Lineorder = place.date

module _ (base : Tables) (masks : Masks) (k : ℕ) (places : List Place) (lines : LineColumns)
    (are : AreLinesOf places lines) (i : ℕ) where
  abbrev pub here : Place
  here = get_or places i nowhere

  position_is : (t : Table) → get_or (positions_in t lines) i 0 ≡ position_of_table here t
  position_is table.Customer = ap (λ (xs : List ℕ). get_or xs i 0) are.customers_are
      ∙ get_or-map (λ (p : Place). p.customer) places i nowhere
  position_is table.Supplier = ap (λ (xs : List ℕ). get_or xs i 0) are.suppliers_are
      ∙ get_or-map (λ (p : Place). p.supplier) places i nowhere
  position_is table.Part = ap (λ (xs : List ℕ). get_or xs i 0) are.parts_are
      ∙ get_or-map (λ (p : Place). p.part) places i nowhere
  position_is table.Date = ap (λ (xs : List ℕ). get_or xs i 0) are.dates_are
      ∙ get_or-map (λ (p : Place). p.date) places i nowhere
  position_is table.Lineorder = ap (λ (xs : List ℕ). get_or xs i 0) are.dates_are
      ∙ get_or-map (λ (p : Place). p.date) places i nowhere

  -- the value of the combination in a dimension's column stands at the row's position, and the row has the bit
  value_there : (t : Table) (place : ℕ) (c : Combination) → StandAt base.dimensions c here → (t ≡ table.Lineorder → ⊥)
      → slice_get (values_of base (record { table = t; place = place })) (position_of_table here t) ≡ Some
      (value_at (record { table = t; place = place }) c)
  value_there table.Customer place c stand dim = grind (arith, mapped_at, here)
  value_there table.Supplier place c stand dim = grind (arith, mapped_at, here)
  value_there table.Part place c stand dim = grind (arith, mapped_at, here)
  value_there table.Date place c stand dim = grind (arith, mapped_at, here)
  value_there table.Lineorder place c stand dim = grind arith

  bit_there : (t : Table) → (t ≡ table.Lineorder → ⊥) → bit_at (place_mask masks here) k ≡ 1
      → bit_at (mask_in (masks_in t masks) (position_of_table here t)) k ≡ 1
  bit_there table.Date dim e = (one_bit _ _ k e).1
  bit_there table.Part dim e = (one_bit _ _ k (one_bit _ _ k e).0).1
  bit_there table.Supplier dim e = (one_bit _ _ k (one_bit _ _ k (one_bit _ _ k e).0).0).1
  bit_there table.Customer dim e = (one_bit _ _ k (one_bit _ _ k (one_bit _ _ k (one_bit _ _ k e).0).0).0).1
  bit_there table.Lineorder dim e = absurd (dim refl)

  module _ (c : Combination) (stand : StandAt base.dimensions c here) (bit : bit_at (place_mask masks here) k ≡ 1) where
    part_is : (column : Column) (values : List Value) (step : ℕ) (group : GroupColumn)
        → (column.table ≡ table.Lineorder → ⊥) → IsPart base masks k lines column values step group
        → (slice_get values (code_in values (value_at column c)) ≡ Some (value_at column c))
        × (part_at i group ≡ code_in values (value_at column c) * step)
    part_is column values step group dim part =
        let p = position_of_table here column.table in
        let at : get_or group.positions.now i 0 ≡ p = ap (λ (xs : List ℕ). get_or xs i 0) part.positions_are
        ∙ position_is column.table in
        let numbered = part.numbers p (value_at column c) (value_there column.table column.place c stand dim)
        (bit_there column.table dim bit) in
        (numbered.0, ap (λ (n : ℕ). get_or group.parts.now (get_or group.codes.now n 0) 0) at ∙ numbered.1)

    parts_are : (groups : List Column) (columns : List (List Value)) (step : ℕ) (parts : List GroupColumn)
        → AllByRecursion (λ column. column.table ≡ table.Lineorder → ⊥) groups
        → AreParts base masks k lines groups columns step parts → ListValues groups columns c
        × (sum_by (part_at i) parts ≡ sum_of_parts step (counts_of columns) (group_codes groups columns c))
    parts_are [] [] step [] dims h = (tt, refl)
    parts_are [] [] step (part ∷ parts) dims h = absurd h
    parts_are [] (values ∷ columns) step parts dims h = absurd h
    parts_are (column ∷ groups) [] step parts dims h = absurd h
    parts_are (column ∷ groups) (values ∷ columns) step [] dims h = absurd h
    parts_are (column ∷ groups) (values ∷ columns) step (part ∷ parts) dims h =
        let first = part_is column values step part dims.0 h.0 in
        let rest = parts_are groups columns (step * length values) parts dims.1 h.1 in
        ((first.0, rest.0), sum_by-cons (part_at i) part parts ∙ (λ j. first.1 j + rest.1 j))

    pub number_is : (groups : List Column) (columns : List (List Value)) (parts : List GroupColumn)
        → AllByRecursion (λ column. column.table ≡ table.Lineorder → ⊥) groups
        → AreParts base masks k lines groups columns 1 parts → ListValues groups columns c
        × (group_at parts i ≡ group_number groups columns c)
    number_is groups columns parts dims h =
        let both = parts_are groups columns 1 parts dims h in
        (both.0, both.1 ∙ (codes_are_numbered (counts_of columns)).parts (group_codes groups columns c))
