-- Tables that keep what those of a base keep have no fault.
use Rattle.std.proofs.Common.{◌≡◌, ◌∙◌, ℕ, ◌+◌, Bool, false, ◌||◌, List, [], ◌∷◌, ◌++◌, Option, None}
use Rattle.std.proofs.Common.{refl}
use Rattle.std.proofs.lemmas.List.Elements.{recursion_from_All}
use Rattle.std.proofs.lemmas.List.Folds.{list_any-append}
use Rattle.std.specs.List.{AllByRecursion, list_any}
use Rattle.ssb_base.specs.Base.{Dimensions, IsDimension, IsKnown, IsSound, Tables, base_fault, customer_key, date_key}
use Rattle.ssb_base.specs.Base.{dimension_fault, has_key_of, is_same_line, line_fault, part_key, repeated_fault}
use Rattle.ssb_base.specs.Base.{supplier_key, table_fault, unknown_of}
use Rattle.ssb_base.specs.declared.limits.Limits.{Limits}
use Rattle.ssb_base.proofs.BaseLaws.{few_rows, line_good, repeated_absent}
use Rattle.ssb_schema.specs.FirstFault.{rows_fault}
use Rattle.ssb_schema.specs.declared.fault.SchemaFault.{SchemaFault}
use Rattle.ssb_schema.specs.declared.line.LineFields.{LineFields}
use Rattle.ssb_schema.specs.declared.table.Table.{Table}
use Rattle.ssb_schema.specs.declared.table.Table.TheVariants as table
use Rattle.ssb_schema.proofs.FirstFaultLaws.{or_else_absent}
use Rattle.export_command.proofs.ApartLaws.{IsApart, apart_of_distinct}

-- no earlier row is the same as one of these
abbrev AreNew : {R : Type 0} → (R → R → Bool) → List R → List R → Type 0
AreNew same earlier rows = AllByRecursion (λ row. list_any (λ e. same e row) earlier ≡ false) rows

none_earlier : {R : Type 0} (same : R → R → Bool) (rows : List R) → AreNew same [] rows
none_earlier same [] = tt
none_earlier same (row ∷ rows) = (refl, none_earlier same rows)

neither : (a b : Bool) → a ≡ false → b ≡ false → (a || (b || false)) ≡ false
neither a b one other = rw (one, other) refl

-- rows that are new behind others are new behind one more that is another than each of them
one_more : {R : Type 0} (same : R → R → Bool) (earlier : List R) (row : R) (rows : List R) → AreNew same earlier rows
    → AllByRecursion (λ later. same row later ≡ false) rows → AreNew same (earlier ++ row ∷ []) rows
one_more same earlier row [] new apart = tt
one_more same earlier row (later ∷ rows) new apart = (
  list_any-append (λ e. same e later) earlier (row ∷ [])
      ∙ neither (list_any (λ e. same e later) earlier) (same row later) new.0 apart.0,
  one_more same earlier row rows new.1 apart.1,
)

-- rows have no fault where each that is no earlier one has none
no_fault : {R : Type 0} (same : R → R → Bool) (f : List R → R → Option SchemaFault) (P : R → Type 0)
    → ((earlier : List R) (row : R) → list_any (λ e. same e row) earlier ≡ false → P row → f earlier row ≡ None)
    → (earlier rows : List R) → AreNew same earlier rows → IsApart same rows → AllByRecursion P rows
    → rows_fault f earlier rows ≡ None
unfolding rows_fault
no_fault same f P good earlier [] new apart all = refl
no_fault same f P good earlier (row ∷ rows) new apart all =
    or_else_absent (f earlier row) (rows_fault f (earlier ++ row ∷ []) rows) (good earlier row new.0 all.0)
    ∙ no_fault same f P good (earlier ++ row ∷ []) rows (one_more same earlier row rows new.1 apart.0) apart.1 all.1

any_row : {R : Type 0} (rows : List R) → AllByRecursion (λ row. Unit {0}) rows
any_row [] = tt
any_row (row ∷ rows) = (tt, any_row rows)

dimension_none : {R : Type 0} (limits : Limits) (t : Table) (key : R → ℕ) (rows : List R)
    → IsDimension limits key rows → dimension_fault limits t key rows ≡ None
dimension_none limits t key rows is =
    let same = has_key_of key in
    few_rows limits.dimension_rows t (repeated_fault t same) rows is.few
    ∙ no_fault same (repeated_fault t same) (λ row. Unit {0})
    (λ earlier row absent any. repeated_absent t same earlier row absent) [] rows (none_earlier same rows)
    (apart_of_distinct same rows is.distinct) (any_row rows)

none_unknown : (dimensions : Dimensions) (line : LineFields) → IsKnown dimensions line
    → unknown_of dimensions line ≡ None
none_unknown dimensions line known = rw (known.customer, known.supplier, known.part, known.date) refl

lines_none : (base : Tables) → IsSound base
    → table_fault base.limits.lines table.Lineorder (line_fault base.dimensions) base.lines ≡ None
lines_none base sound =
    let d = base.dimensions in
    few_rows base.limits.lines table.Lineorder (line_fault d) base.lines sound.few
    ∙ no_fault is_same_line (line_fault d) (IsKnown d)
    (λ earlier line absent known. line_good d earlier line absent (none_unknown d line known)) [] base.lines
    (none_earlier is_same_line base.lines) (apart_of_distinct is_same_line base.lines sound.numbered)
    (recursion_from_All (IsKnown d) base.lines sound.known)

pub sound_has_no_fault : (base : Tables) → IsSound base → base_fault base ≡ None
sound_has_no_fault base sound =
    let d = base.dimensions in
    or_else_absent _ _ (dimension_none base.limits table.Customer customer_key d.customers sound.customers)
    ∙ (or_else_absent _ _ (dimension_none base.limits table.Supplier supplier_key d.suppliers sound.suppliers)
    ∙ (or_else_absent _ _ (dimension_none base.limits table.Part part_key d.parts sound.parts)
    ∙ (or_else_absent _ _ (dimension_none base.limits table.Date date_key d.dates sound.dates)
    ∙ lines_none base sound)))
