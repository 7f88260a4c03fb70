-- The groups of a question can be numbered and summed.
use Rattle.std.proofs.Common.{ℕ, zero, suc, ◌≡◌, ◌*◌, ◌<◌, List, [], ◌∷◌, length, map, get_or, sym, ap, ◌∙◌}
use Rattle.std.proofs.Common.{subst, arith}
use Rattle.std.specs.List.{All, AllByRecursion}
use Rattle.std.proofs.lemmas.List.{length-map}
use Rattle.ssb_base.specs.Base.{Tables}
use Rattle.ssb_schema.specs.declared.column.Column.{Column}
use Rattle.ssb_schema.specs.declared.table.Table.{Table}
use Rattle.ssb_schema.specs.declared.table.Table.TheVariants as table
use Rattle.ssb_questions.specs.declared.value.Value.{Value}
use Rattle.dimension_index.specs.Codes.{codes_of, distinct, code_in}
use Rattle.dimension_index.specs.Values.{values_of, values_at}
use Rattle.fact_columns.specs.declared.place.Place.{Place}
use Rattle.fact_columns.specs.Places.{IsWithin}
use Rattle.scan_kernel.specs.declared.columns.LineColumns.{LineColumns}
use Rattle.scan_kernel.specs.declared.columns.GroupColumn.{GroupColumn}
use Rattle.scan_kernel.specs.declared.masks.Masks.{Masks}
use Rattle.scan_kernel.specs.Places.{CanNumber}
use Rattle.shared_scan.specs.Prepared.{positions_in, masks_in}
use Rattle.shared_scan.specs.Laws.{AreLinesOf}
use Rattle.shared_scan.specs.Numbering.{IsPreparedColumn}
use Rattle.shared_scan.specs.Grouped.{ArePrepared}
use Rattle.shared_scan.specs.GroupColumns.{AreGroupColumns, IsGroupColumn}
use Rattle.shared_scan.proofs.NumberLaws.{position_of_table}
use Rattle.shared_scan.proofs.DistinctLaws.{codes_within}
use Rattle.shared_scan.proofs.CanScanLaws.{below_in}

module _ (base : Tables) (places : List Place) (lines : LineColumns) (within : All (IsWithin base.dimensions) places)
    (are : AreLinesOf places lines) where
  read_is : (t : Table) → positions_in t lines ≡ map (λ place. position_of_table place t) places
  read_is table.Customer = are.customers_are
  read_is table.Supplier = are.suppliers_are
  read_is table.Part = are.parts_are
  read_is table.Date = are.dates_are
  read_is table.Lineorder = are.dates_are

  rows_there : (t : Table) (place : ℕ) → (t ≡ table.Lineorder → ⊥)
      → All (λ p. position_of_table p t < length (values_at base t place)) places
  rows_there table.Customer place dim = grind (arith, length-map)
  rows_there table.Supplier place dim = grind (arith, length-map)
  rows_there table.Part place dim = grind (arith, length-map)
  rows_there table.Date place dim = grind (arith, length-map)
  rows_there table.Lineorder place dim = grind arith

  can_number : (masks : Masks) (k : ℕ) (column : Column) (values : List Value) (step : ℕ) (part : List ℕ)
      (group : GroupColumn) → (column.table ≡ table.Lineorder → ⊥)
      → IsPreparedColumn (values_of base column) (masks_in column.table masks) k step values part
      → IsGroupColumn base lines column part group → CanNumber (length lines.customer.now) group
  can_number masks k column values step part group dim made is =
      let rows = values_of base column in
      let position : Place → ℕ = λ place. position_of_table place column.table in
      let positions : group.positions.now ≡ map position places = is.positions_are ∙ read_is column.table in
      let codes_len : length (codes_of rows) ≡ length rows = length-map rows (code_in (distinct rows)) in
      let parts_len : length part ≡ length (distinct rows) = made.len in
      let below_rows = below_in (λ p. p < length rows) position places group.positions.now positions
      (rows_there column.table column.place dim) in
      record {
        places = ap length positions ∙ length-map places position ∙ sym (length-map places (λ place. place.customer))
            ∙ ap length (sym are.customers_are);
        positions = λ j e below. let h = below_rows j e below in omega (arith, h, codes_len, ap length is.codes_are);
        codes = λ j e below.
            let inside : j < length (codes_of rows) = subst (λ (xs : List ℕ). j < length xs) is.codes_are below in
            let code : get_or group.codes.now j e ≡ get_or (codes_of rows) j e =
            ap (λ (xs : List ℕ). get_or xs j e) is.codes_are in
            omega (arith, code, codes_within rows j e inside, parts_len, ap length is.parts_are);
      }

  all_push : (group : GroupColumn) (groups : List GroupColumn) → CanNumber (length lines.customer.now) group
      → All (CanNumber (length lines.customer.now)) groups
      → All (CanNumber (length lines.customer.now)) (group ∷ groups)
  all_push group groups here more zero d below = here
  all_push group groups here more (suc j) d below = more j d (omega (arith, below))

  pub can_number_all : (masks : Masks) (k : ℕ) (columns : List Column) (values : List (List Value)) (step : ℕ)
      (parts : List (List ℕ)) (groups : List GroupColumn)
      → AllByRecursion (λ column. column.table ≡ table.Lineorder → ⊥) columns
      → ArePrepared base masks k columns values step parts → AreGroupColumns base lines columns parts groups
      → All (CanNumber (length lines.customer.now)) groups
  can_number_all masks k [] [] step [] [] dims h g = λ j d below. absurd (omega (arith, below))
  can_number_all masks k [] [] step [] (x ∷ groups) dims h g = absurd g
  can_number_all masks k [] [] step (p ∷ parts) groups dims h g = absurd h
  can_number_all masks k [] (v ∷ values) step parts groups dims h g = absurd h
  can_number_all masks k (c ∷ columns) [] step parts groups dims h g = absurd h
  can_number_all masks k (c ∷ columns) (v ∷ values) step [] groups dims h g = absurd h
  can_number_all masks k (c ∷ columns) (v ∷ values) step (p ∷ parts) [] dims h g = absurd g
  can_number_all masks k (c ∷ columns) (v ∷ values) step (p ∷ parts) (x ∷ groups) dims h g =
      all_push x groups (can_number masks k c v step p x dims.0 h.0 g.0)
      (can_number_all masks k columns values (step * length v) parts groups dims.1 h.1 g.1)
