-- The columns that no query reads have the number 0 in every row.
use Rattle.std.proofs.Common.{◌≡◌, ℕ, ◌<◌, Bool, true, false, cond, List, All, ◌+◌, ◌++◌, length, get_or, slice_get, Some}
use Rattle.std.proofs.Common.{map, sym, ap, ◌∙◌, eqb, refl, lit<, arith}
use Rattle.std.proofs.lemmas.Bool.{ne_eqb}
use Rattle.std.proofs.lemmas.List.{get_or_append_left, get_or-append-add, length-append}
use Rattle.std.proofs.lemmas.Option.{slice_get_within, slice_get-get_or, get_or_from_slice_get, slice_get-map}
use Rattle.std.specs.Option.{option_map}
use Rattle.ssb_schema.specs.declared.table.Table.{Table}
use Rattle.ssb_schema.specs.declared.table.Table.TheVariants as table
use Rattle.ssb_schema.specs.declared.column.Column.{Column}
use Rattle.ssb_schema.specs.declared.customer.CustomerFields.{CustomerFields}
use Rattle.ssb_schema.specs.declared.supplier.SupplierFields.{SupplierFields}
use Rattle.ssb_schema.specs.declared.part.PartFields.{PartFields}
use Rattle.ssb_schema.specs.declared.date.DateFields.{DateFields}
use Rattle.ssb_base.specs.Base.{Tables}
use Rattle.ssb_schema.specs.Columns.{query_columns}
use Rattle.ssb_questions.specs.declared.value.Value.{Value}
use Rattle.ssb_questions.specs.declared.value.Value.TheVariants.{Text, Number}
use Rattle.dimension_index.specs.Values.{values_at, values_of}
use Rattle.dimension_index.specs.Kept.{unread, unread_columns, kept_columns}

abbrev column_at : Table → ℕ → Column
column_at t place = record { table = t; place = place }

abbrev IsUnread : Column → Type 0
IsUnread column = All (λ own. own ≡ column → ⊥) query_columns

-- a column that is none of those has another place than the one of its table that stands there
elsewhere : (t : Table) (place own i : ℕ) → IsUnread (column_at t place) → i < 19
    → column_at t own ≡ get_or query_columns i (unread t) → eqb place own ≡ false
elsewhere t place own i absent within is = ne_eqb place own
    (λ same. absent i (unread t) within (sym is ∙ ap (column_at t) (sym same)))

-- what stands elsewhere is not what is there
not_there : {y : Value} (a : Bool) (x : Value) → a ≡ false → Number 0 ≡ y → Number 0 ≡ cond a x y
not_there true x e rest = absurd cc
not_there false x e rest = rest

unread_at : (base : Tables) (t : Table) (place : ℕ) → IsUnread (column_at t place)
    → values_at base t 0 ≡ values_at base t place
unread_at base table.Customer place absent =
    let city = elsewhere table.Customer place 4 0 absent (lit< tt) refl in
    let nation = elsewhere table.Customer place 5 1 absent (lit< tt) refl in
    let region = elsewhere table.Customer place 6 2 absent (lit< tt) refl in
    let segment = elsewhere table.Customer place 8 3 absent (lit< tt) refl in
    λ i. map (λ (row : CustomerFields).
    (not_there (eqb place 4) (Text row.city) city (not_there (eqb place 5) (Text row.nation) nation (not_there (eqb place 6) (Text row.region) region (not_there (eqb place 8) (Text row.market_segment) segment refl)))) i)
    base.dimensions.customers
unread_at base table.Supplier place absent =
    let city = elsewhere table.Supplier place 4 4 absent (lit< tt) refl in
    let nation = elsewhere table.Supplier place 5 5 absent (lit< tt) refl in
    let region = elsewhere table.Supplier place 6 6 absent (lit< tt) refl in
    λ i. map (λ (row : SupplierFields).
    (not_there (eqb place 4) (Text row.city) city (not_there (eqb place 5) (Text row.nation) nation (not_there (eqb place 6) (Text row.region) region refl))) i)
    base.dimensions.suppliers
unread_at base table.Part place absent =
    let manufacturer = elsewhere table.Part place 3 7 absent (lit< tt) refl in
    let category = elsewhere table.Part place 4 8 absent (lit< tt) refl in
    let brand = elsewhere table.Part place 5 9 absent (lit< tt) refl in
    λ i. map (λ (row : PartFields).
    (not_there (eqb place 3) (Text row.manufacturer) manufacturer (not_there (eqb place 4) (Text row.category) category (not_there (eqb place 5) (Text row.brand) brand refl))) i)
    base.dimensions.parts
unread_at base table.Date place absent =
    let key = elsewhere table.Date place 1 10 absent (lit< tt) refl in
    let day = elsewhere table.Date place 3 11 absent (lit< tt) refl in
    let month = elsewhere table.Date place 4 12 absent (lit< tt) refl in
    let year = elsewhere table.Date place 5 13 absent (lit< tt) refl in
    let number = elsewhere table.Date place 6 14 absent (lit< tt) refl in
    let name = elsewhere table.Date place 7 15 absent (lit< tt) refl in
    let week = elsewhere table.Date place 12 16 absent (lit< tt) refl in
    let season = elsewhere table.Date place 13 17 absent (lit< tt) refl in
    let holiday = elsewhere table.Date place 16 18 absent (lit< tt) refl in
    λ i. map (λ (row : DateFields).
    (not_there (eqb place 1) (Number row.key) key (not_there (eqb place 3) (Text row.day_of_week) day (not_there (eqb place 4) (Text row.month) month (not_there (eqb place 5) (Number row.year) year (not_there (eqb place 6) (Number row.year_month_number) number (not_there (eqb place 7) (Text row.year_month) name (not_there (eqb place 12) (Number row.week) week (not_there (eqb place 13) (Text row.selling_season) season (not_there (eqb place 16) (Text row.holiday_flag) holiday refl))))))))) i)
    base.dimensions.dates
unread_at base table.Lineorder place absent = refl

-- where no query reads a column, it is as the one at place 0 of its table
pub unread_alike : (base : Tables) (column : Column) → IsUnread column
    → values_of base (unread column.table) ≡ values_of base column
unread_alike base column absent = unread_at base column.table column.place absent

in_first : (xs ys : List Column) (i : ℕ) (x : Column) → slice_get xs i ≡ Some x → slice_get (xs ++ ys) i ≡ Some x
in_first xs ys i x there =
    let within = slice_get_within xs i x there in
    slice_get-get_or (xs ++ ys) i x (omega (arith, within, length-append xs ys))
    ∙ ap Some (get_or_append_left xs ys x i within ∙ get_or_from_slice_get xs i x x there)

in_second : (xs ys : List Column) (i : ℕ) (x : Column) → slice_get ys i ≡ Some x
    → slice_get (xs ++ ys) (length xs + i) ≡ Some x
in_second xs ys i x there =
    let within = slice_get_within ys i x there in
    slice_get-get_or (xs ++ ys) (length xs + i) x (omega (arith, within, length-append xs ys))
    ∙ ap Some (get_or-append-add xs ys i x ∙ get_or_from_slice_get ys i x x there)

-- a column that queries read is kept
pub kept_read : (base : Tables) (column : Column) (place : ℕ) → slice_get query_columns place ≡ Some column
    → slice_get (map (values_of base) kept_columns) place ≡ Some (values_of base column)
kept_read base column place there = slice_get-map (values_of base) kept_columns place
    ∙ ap (option_map (values_of base)) (in_first query_columns unread_columns place column there)

-- any other is kept as the one at place 0 of its table
pub kept_unread : (base : Tables) (column : Column) (place : ℕ) → IsUnread column
    → slice_get unread_columns place ≡ Some (unread column.table)
    → slice_get (map (values_of base) kept_columns) (19 + place) ≡ Some (values_of base column)
kept_unread base column place absent there =
    slice_get-map (values_of base) kept_columns (19 + place)
    ∙ ap (option_map (values_of base)) (in_second query_columns unread_columns place (unread column.table) there)
    ∙ ap Some (unread_alike base column absent)
