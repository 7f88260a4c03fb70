-- Laws of the first fault of a row.
use Rattle.std.proofs.Common.{◌≡◌, ◌<◌, ◌≤◌, ℕ, ◌+◌, List, ◌∷◌, Option, Some, None, length, drop}
use Rattle.std.proofs.Common.{map, get_or, refl, arith, add-one}
use Rattle.std.specs.List.{slice_get}
use Rattle.std.proofs.Math.Seq.{drop-cons}
use Rattle.std.proofs.lemmas.List.{drop_all}
use Rattle.std.proofs.lemmas.Option.{slice_get_within, get_or_from_slice_get, slice_get-get_or, slice_get-map}
use Rattle.ssb_schema.specs.declared.table.Table.{Table}
use Rattle.ssb_schema.specs.declared.kind.Kind.{Kind}
use Rattle.ssb_schema.specs.declared.kind.Cell.{Cell}
use Rattle.ssb_schema.specs.declared.fault.SchemaFault.{SchemaFault}
use Rattle.ssb_schema.specs.Columns.{Value, value_of, column_fault, first_fault, or_else}

-- a list from a place on is the element there, and the list from the next place on
pub drop_at_element : {X : Type 0} (xs : List X) (i : ℕ) (x : X) → slice_get xs i ≡ Some x
    → drop i xs ≡ x ∷ drop (i + 1) xs
drop_at_element xs i x e =
    let within = slice_get_within xs i x e in
    rw (add-one, drop-cons xs i x within, get_or_from_slice_get xs i x x e) refl

-- the first fault of the columns from a place on is the fault there, or else the first one after it
pub first_fault-drop : (t : Table) (i : ℕ) (ks : List Kind) (cells : List Cell) (k : Kind) (c : Cell)
    (f : Option SchemaFault)
    → i < length ks → length cells ≡ length ks
    → f ≡ column_fault (record { table = t; place = i + 1 }) (get_or ks i k) (value_of (get_or cells i c))
    → first_fault t (i + 1) (drop i ks) (drop i (map value_of cells))
    ≡ or_else f (first_fault t (i + 1 + 1) (drop (i + 1) ks) (drop (i + 1) (map value_of cells)))
unfolding first_fault
first_fault-drop t i ks cells k c f lt same is =
    let at_kind = drop_at_element ks i (get_or ks i k) (slice_get-get_or ks i k lt) in
    let in_cells : i < length cells = omega arith in
    let value : slice_get (map value_of cells) i ≡ Some (value_of (get_or cells i c))
    = rw (slice_get-map value_of cells i, slice_get-get_or cells i c in_cells) refl in
    let at_value = drop_at_element (map value_of cells) i (value_of (get_or cells i c)) value in
    rw (at_kind, at_value, is) refl

-- past the last column there is no fault
pub first_fault_ends : (t : Table) (place i : ℕ) (ks : List Kind) (vs : List Value) → length ks ≤ i
    → first_fault t place (drop i ks) vs ≡ None
unfolding first_fault
first_fault_ends t place i ks vs le = rw (drop_all i ks le) refl
