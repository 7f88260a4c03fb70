-- The columns of a table are found at their places.
use Rattle.std.proofs.Common.{◌≡◌, ◌∙◌, ◌<◌, ℕ, zero, suc, ◌+◌, ◌-◌, Bool, true, ◌&&◌, nat_eq, List, []}
use Rattle.std.proofs.Common.{◌∷◌, map, refl, sym, ap, arith}
use Rattle.std.specs.List.{slice_get, find}
use Rattle.std.specs.Cmp.{second_so}
use Rattle.std.specs.Option.{option_map, unwrap_or}
use Rattle.std.proofs.lemmas.Bool.Decides.{nat_tests}
use Rattle.std.proofs.lemmas.Option.{slice_get-map}
use Rattle.ssb_schema.specs.declared.table.Table.{Table}
use Rattle.ssb_schema.specs.declared.table.Table.TheVariants as table
use Rattle.ssb_schema.specs.declared.column.Column.{Column}
use Rattle.ssb_schema.specs.declared.kind.Kind.{Kind}
use Rattle.ssb_schema.specs.Columns.{Described, columns_of, column_name, column_kind, kinds_of}

-- whether the places count from here
abbrev are_placed : ℕ → List Described → Bool
are_placed place [] = true
are_placed place (row ∷ rows) = nat_eq row.place place && are_placed (suc place) rows

placed : (t : Table) → are_placed 1 (columns_of t) ≡ true
placed table.Customer = refl
placed table.Supplier = refl
placed table.Part = refl
placed table.Date = refl
placed table.Lineorder = refl

found_at : (rows : List Described) (place i : ℕ) → are_placed place rows ≡ true
    → find (λ row. nat_eq row.place (place + i)) rows ≡ slice_get rows i
found_at [] place i h = grind arith
found_at (row ∷ rows) place zero h = grind (arith, nat_eq, nat_tests)
found_at (row ∷ rows) place (suc i) h = grind (arith, nat_eq, nat_tests, found_at rows (suc place) i (second_so (nat_eq row.place place) (are_placed (suc place) rows) h))

-- the name at a place, from the names in order
pub name_at : (column : Column) (names : List (List ℕ)) → 0 < column.place
    → names ≡ map (λ row. row.name) (columns_of column.table)
    → unwrap_or (slice_get names (column.place - 1)) [] ≡ column_name column
name_at column names some are =
    let place_is : 1 + (column.place - 1) ≡ column.place = omega (arith, some) in
    let found = ap (λ (n : ℕ). find (λ row. nat_eq row.place n) (columns_of column.table)) (sym place_is)
    ∙ found_at (columns_of column.table) 1 (column.place - 1) (placed column.table) in
    ap (λ xs. unwrap_or (slice_get xs (column.place - 1)) []) are
    ∙ ap (λ o. unwrap_or o []) (slice_get-map (λ row. row.name) (columns_of column.table) (column.place - 1))
    ∙ ap (λ o. unwrap_or (option_map (λ row. row.name) o) []) (sym found)

-- what the column at a place takes, from the kinds in order
pub kind_at : (column : Column) (kinds : List Kind) → 0 < column.place → kinds ≡ kinds_of column.table
    → slice_get kinds (column.place - 1) ≡ column_kind column
kind_at column kinds some are =
    let place_is : 1 + (column.place - 1) ≡ column.place = omega (arith, some) in
    let found = ap (λ (n : ℕ). find (λ row. nat_eq row.place n) (columns_of column.table)) (sym place_is)
    ∙ found_at (columns_of column.table) 1 (column.place - 1) (placed column.table) in
    ap (λ xs. slice_get xs (column.place - 1)) are
    ∙ slice_get-map (λ row. row.kind) (columns_of column.table) (column.place - 1)
    ∙ ap (λ o. option_map (λ row. row.kind) o) (sym found)
