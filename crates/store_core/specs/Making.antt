-- A new store, as the calls that make it leave it.
use Rattle.std.specs.Prelude.{◌≡◌, ◌⊎◌, ℕ, false, List, [], ◌∷◌, Some, None}
use Rattle.store_core.specs.Places.{sure}
use Rattle.store_core.specs.Found.{Store, Found, Finds}
use Rattle.store_core.specs.World.{World, Begin, SyncNames, SyncTables, NameTables, SyncName, MayLeave, after, changed_at}
use Rattle.store_core.specs.Calls.{MayCall, Sure, tables_known}
use Rattle.store_core.specs.declared.calls.StoreCall.{StoreCall}
use Rattle.store_core.specs.declared.calls.StoreCall.TheVariants as call

-- a folder that has nothing, in which a store of these tables is made
abbrev pub nothing : {T C : Type 0} → T → World T C
nothing first = record {
  first = first;
  log = [];
  told = 0;
  active = None;
  written = λ _. None;
  tables = λ _. sure None;
  segments = λ _. sure None;
}

-- what a call leaves of it: the tables that are written are the first ones
abbrev pub made_by : {T C : Type 0} → World T C → StoreCall → World T C
made_by w (call.WriteTables n) =
    record w { written = changed_at n (λ _. Some (record { tables = w.first; synced = false })) w.written }
made_by w (call.SyncTables n) = after w (SyncTables n)
made_by w (call.NameTables n) = after w (NameTables n)
made_by w (call.SyncName n) = after w (SyncName n)
made_by w (call.BeginSegment at n) = after w (Begin at n)
made_by w call.SyncNames = after w SyncNames
made_by w _ = w

-- after calls, the newest first
abbrev pub made : {T C : Type 0} → World T C → List StoreCall → World T C
made w [] = w
made w (is ∷ calls) = made_by (made w calls) is

-- a store is made by such calls
abbrev pub IsMaking : StoreCall → Type 0
IsMaking (call.WriteTables n) = Unit {0}
IsMaking (call.SyncTables n) = Unit {0}
IsMaking (call.NameTables n) = Unit {0}
IsMaking (call.SyncName n) = Unit {0}
IsMaking (call.BeginSegment at n) = Unit {0}
IsMaking call.SyncNames = Unit {0}
IsMaking _ = ⊥

-- and by the rules: each may be made after those before it, of which the first finds that there is nothing
abbrev pub MakeAStore : List StoreCall → Type 0
MakeAStore [] = ⊥
MakeAStore (call.FindNothing ∷ calls) = calls ≡ []
MakeAStore (is ∷ calls) = IsMaking is × MayCall calls is × MakeAStore calls

-- a start finds the first tables, and no commits
abbrev pub new_found : {T C : Type 0} → T → Found T C
new_found first = record { after = 0; tables = first; closed = []; last = [] }

-- a crash at any moment leaves no tables, or the new store
abbrev pub MakesNoneOrAll : Type 0 → Type 0 → Type 0
MakesNoneOrAll T C = (first : T) (calls : List StoreCall) → MakeAStore calls
    → (left : Store T C) → MayLeave (made (nothing first) calls) left
    → ((n : ℕ) → left.tables n ≡ None) ⊎ Finds left (new_found first)

-- and this, once the name of its tables is synced
abbrev pub MadeStoreStays : Type 0 → Type 0 → Type 0
MadeStoreStays T C = (first : T) (calls : List StoreCall) → MakeAStore calls → tables_known calls ≡ Sure 0
    → (left : Store T C) → MayLeave (made (nothing first) calls) left → Finds left (new_found first)
