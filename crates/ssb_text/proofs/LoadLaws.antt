use Rattle.std.proofs.Common.{arith}
-- What the reading of five tables has found so far.
use Rattle.std.proofs.Common.{◌≡◌, ◌+◌, ℕ, Bool, true, false, List, [], ◌∷◌, ◌++◌, length, Option, Some, None, is_some}
use Rattle.std.proofs.Common.{nat_lt, refl, subst, ◌⊎◌}
use Rattle.std.specs.Option.{IfSome, option_map}
use Rattle.std.specs.Prelude.{if◌then◌else◌}
use Rattle.ssb_base.specs.Base.{Tables as BaseTables, Dimensions, base_fault, customer_key, date_key, dimension_fault}
use Rattle.ssb_base.specs.Base.{has_key_of, line_fault, part_key, repeated_fault, supplier_key}
use Rattle.ssb_base.specs.Base.{table_fault}
use Rattle.ssb_schema.specs.Columns.{Value, or_else}
use Rattle.ssb_schema.specs.FirstFault.{rows_fault}
use Rattle.ssb_schema.specs.declared.fault.SchemaFault.{SchemaFault}
use Rattle.ssb_schema.specs.declared.fault.SchemaFault.TheVariants as fault
use Rattle.ssb_base.specs.declared.limits.Limits.{Limits}
use Rattle.ssb_schema.specs.declared.line.LineFields.{LineFields}
use Rattle.ssb_schema.specs.declared.table.Table.{Table}
use Rattle.ssb_schema.specs.declared.table.Table.TheVariants as table
use Rattle.ssb_text.specs.Load.{IsWhole, StopsAt, in_base, limit_of}
use Rattle.ssb_text.specs.Tables.{IsFirstFault, IsReadFault, SpellsRows}
use Rattle.ssb_text.specs.declared.error.LoadError.{LoadError}

-- what holds of a text that is known
pub at_known : (known : Option (List ℕ)) (text : List ℕ) (P : List ℕ → Type 0) → known ≡ Some text → IfSome known P
    → P text
at_known known text P is h = let Q : Option (List ℕ) → Type 0 = λ o. IfSome o P in subst Q is h

-- a table that was read whole, and one whose reading stopped
pub table_whole : (limits : Limits) (texts : Table → List ℕ) (t : Table) (known : Option (List ℕ))
    (rows : List (List Value)) → known ≡ Some (texts t)
    → IfSome known (λ text. SpellsRows t (limit_of limits t) text rows) → IsWhole limits texts t
table_whole limits texts t known rows is h = grind (arith, at_known)

pub table_stops : (limits : Limits) (texts : Table → List ℕ) (t : Table) (known : Option (List ℕ)) (e : LoadError)
    → known ≡ Some (texts t)
    → IsReadFault t e ⊎ IfSome known (λ text. IsFirstFault t (limit_of limits t) text e) → StopsAt limits texts t e
table_stops limits texts t known e is h = grind (arith, at_known)

-- what holds of each table
pub each_table : (P : Table → Type 0) → P table.Customer → P table.Supplier → P table.Part → P table.Date
    → P table.Lineorder → (t : Table) → P t
each_table P customer supplier part date lineorder table.Customer = customer
each_table P customer supplier part date lineorder table.Supplier = supplier
each_table P customer supplier part date lineorder table.Part = part
each_table P customer supplier part date lineorder table.Date = date
each_table P customer supplier part date lineorder table.Lineorder = lineorder

-- each fault that may be found is one that a load can tell
abbrev AreTold : Limits → Option SchemaFault → Type 0
AreTold limits None = Unit {0}
AreTold limits (Some why) = is_some (in_base limits why) ≡ true

or_told : (limits : Limits) (a b : Option SchemaFault) → AreTold limits a → AreTold limits b
    → AreTold limits (or_else a b)
or_told limits None b first later = later
or_told limits (Some why) b first later = first

if_told : (limits : Limits) (test : Bool) (a b : Option SchemaFault) → AreTold limits a → AreTold limits b
    → AreTold limits (if test then a else b)
if_told limits true a b first later = first
if_told limits false a b first later = later

rows_told : {R : Type 0} (limits : Limits) (f : List R → R → Option SchemaFault)
    → ((earlier : List R) (row : R) → AreTold limits (f earlier row))
    → (earlier rows : List R) → AreTold limits (rows_fault f earlier rows)
unfolding rows_fault
rows_told limits f each earlier [] = tt
rows_told limits f each earlier (r ∷ rows) = or_told limits (f earlier r) (rows_fault f (earlier ++ r ∷ []) rows)
    (each earlier r) (rows_told limits f each (earlier ++ r ∷ []) rows)

table_told : {R : Type 0} (limits : Limits) (most : ℕ) (t : Table) (f : List R → R → Option SchemaFault)
    → ((earlier : List R) (row : R) → AreTold limits (f earlier row))
    → (rows : List R) → AreTold limits (table_fault most t f rows)
table_told limits most t f each rows = if_told limits (nat_lt most (length rows)) (Some (fault.TooManyRows t))
    (rows_fault f [] rows) refl (rows_told limits f each [] rows)

repeated_told : {R : Type 0} (limits : Limits) (t : Table) (same : R → R → Bool) (earlier : List R) (row : R)
    → AreTold limits (repeated_fault t same earlier row)
repeated_told limits t same earlier row = grind (arith, if_told)

dimension_told : {R : Type 0} (limits : Limits) (t : Table) (key : R → ℕ) (rows : List R)
    → AreTold limits (dimension_fault limits t key rows)
dimension_told limits t key rows = table_told limits limits.dimension_rows t (repeated_fault t (has_key_of key))
    (repeated_told limits t (has_key_of key)) rows

unknown_told : (limits : Limits) (n : ℕ) (unknown : Option Table)
    → AreTold limits (option_map (λ t. fault.UnknownKey n t) unknown)
unknown_told limits n None = tt
unknown_told limits n (Some t) = refl

line_told : (limits : Limits) (dimensions : Dimensions) (earlier : List LineFields) (line : LineFields)
    → AreTold limits (line_fault dimensions earlier line)
line_told limits dimensions earlier line = grind (arith, or_told, repeated_told, unknown_told)

base_told : (base : BaseTables) → AreTold base.limits (base_fault base)
base_told base =
    let limits = base.limits in
    let lines : Option SchemaFault = table_fault limits.lines table.Lineorder (line_fault base.dimensions) base.lines in
    let dates : Option SchemaFault = dimension_fault limits table.Date date_key base.dimensions.dates in
    let parts : Option SchemaFault = dimension_fault limits table.Part part_key base.dimensions.parts in
    let suppliers : Option SchemaFault = dimension_fault limits table.Supplier supplier_key base.dimensions.suppliers in
    let customers : Option SchemaFault = dimension_fault limits table.Customer customer_key base.dimensions.customers in
    or_told limits customers (or_else suppliers (or_else parts (or_else dates lines)))
    (dimension_told limits table.Customer customer_key base.dimensions.customers)
    (or_told limits suppliers (or_else parts (or_else dates lines))
    (dimension_told limits table.Supplier supplier_key base.dimensions.suppliers)
    (or_told limits parts (or_else dates lines) (dimension_told limits table.Part part_key base.dimensions.parts)
    (or_told limits dates lines (dimension_told limits table.Date date_key base.dimensions.dates)
    (table_told limits limits.lines table.Lineorder (line_fault base.dimensions) (line_told limits base.dimensions)
    base.lines))))

-- the first fault of a base is one that a load can tell
pub base_fault_told : (base : BaseTables) (why : SchemaFault) → base_fault base ≡ Some why
    → in_base base.limits why ≡ None → ⊥
base_fault_told base why found untold = grind (arith, is_some, base_told)
