-- The first fault of a list of rows.
use Rattle.std.specs.Prelude.{◌≡◌, ℕ, ◌<◌, Bool, false, List, [], ◌∷◌, ◌++◌, Option, Some, None, slice_get}
use Rattle.ssb_schema.specs.Columns.{or_else}
use Rattle.ssb_schema.specs.declared.fault.SchemaFault.{SchemaFault}

-- the first fault of rows, each judged by the rows before it
unfoldable pub rows_fault : {R : Type 0} → (List R → R → Option SchemaFault) → List R → List R → Option SchemaFault
rows_fault fault_after earlier [] = None
rows_fault fault_after earlier (r ∷ rows) =
    or_else (fault_after earlier r) (rows_fault fault_after (earlier ++ r ∷ []) rows)

-- no two of the rows are the same by this test
abbrev pub AreDistinct : {R : Type 0} → (R → R → Bool) → List R → Type 0
AreDistinct {R} same rows =
    (i j : ℕ) (earlier later : R) → i < j → slice_get rows i ≡ Some earlier → slice_get rows j ≡ Some later
    → same earlier later ≡ false
