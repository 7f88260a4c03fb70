-- The calls on a store that look what it has.
use Rattle.std.specs.Prelude.{ℕ, Bool, true, false, List, [], ◌∷◌}
use Rattle.store_core.specs.declared.calls.StoreCall.{StoreCall}
use Rattle.store_core.specs.declared.calls.StoreCall.TheVariants.{FindNewest, FindSegment, FindTables}

-- of whoever has found a store: its newest tables, and the segment that a server goes on with
abbrev pub found_calls : ℕ → ℕ → List StoreCall
found_calls after last = FindSegment last ∷ FindNewest after ∷ []

-- the calls, and that tables of this number were found, where they were
abbrev pub if_found : Bool → ℕ → List StoreCall → List StoreCall
if_found true number calls = FindTables number ∷ calls
if_found false number calls = calls
