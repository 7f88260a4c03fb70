-- A server and a checkpoint that call one store, in any order.
use Rattle.std.specs.Prelude.{◌≡◌, List, [], ◌∷◌, Option, Some, None}
use Rattle.store_core.specs.Places.{Segment}
use Rattle.store_core.specs.Found.{Store, Found, AreNewest, Finds, IsBeginning, end_of}
use Rattle.store_core.specs.World.{World, Step, Commit, Tell, Begin, SyncNames, GoOn, Fold, SyncTables, NameTables}
use Rattle.store_core.specs.World.{SyncName, DropTables, DropSegment, Crash, IsActive, IsFull, IsAllowed, MayLeave}
use Rattle.store_core.specs.World.{new_world, reads, after}
use Rattle.store_core.specs.Runs.{IsRun, after_all}
use Rattle.store_core.specs.Calls.{MayCall}
use Rattle.store_core.specs.declared.calls.StoreCall.{StoreCall}
use Rattle.store_core.specs.declared.calls.StoreCall.TheVariants as call

pub data Caller : Type 0 where
  Server : Caller
  Checkpoint : Caller

-- what happens to a store
pub data Event (T C : Type 0) : Type 0 where
  -- this step is made
  Makes : Caller → Step T C → Event T C
  -- a call fails; its step is made all the same, or is not. Where a sync puts some of the names on the disk, a crash
  -- leaves nothing that it might not have left without it
  Fails : Caller → Option (Step T C) → Event T C
  -- this is found
  Finding : Caller → StoreCall → Event T C
  -- one begins anew, as it has the lock, and has made no call
  Begins : Caller → Event T C
  -- the machine stops, and this is left
  Crashes : Store T C → Event T C

-- who makes a step
abbrev pub IsBy : {T C : Type 0} → Caller → Step T C → Type 0
IsBy Server (Fold found tables) = ⊥
IsBy Server (SyncTables n) = ⊥
IsBy Server (NameTables n) = ⊥
IsBy Server (SyncName n) = ⊥
IsBy Server (DropTables n newer) = ⊥
IsBy Server (DropSegment n newer) = ⊥
IsBy Server (Crash left) = ⊥
IsBy Server _ = Unit {0}
IsBy Checkpoint (Fold found tables) = Unit {0}
IsBy Checkpoint (SyncTables n) = Unit {0}
IsBy Checkpoint (NameTables n) = Unit {0}
IsBy Checkpoint (SyncName n) = Unit {0}
IsBy Checkpoint SyncNames = Unit {0}
IsBy Checkpoint (DropTables n newer) = Unit {0}
IsBy Checkpoint (DropSegment n newer) = Unit {0}
IsBy Checkpoint _ = ⊥

-- a step may be made after calls by the rules for these; what no call tells has to be so: what a server does to its own
-- segment, and that tables which are written are those after what was found
abbrev pub MayMake : {T C : Type 0} → (T → C → T) → World T C → List StoreCall → Step T C → Type 0
MayMake next w calls (Begin at new) = MayCall calls (call.BeginSegment at new)
MayMake next w calls SyncNames = MayCall calls call.SyncNames
MayMake next w calls (GoOn at new) = MayCall calls (call.GoOn at new)
MayMake next w calls (Fold found tables) =
    MayCall calls (call.WriteTables (end_of found.after found.closed)) × IsAllowed next w (Fold found tables)
MayMake next w calls (SyncTables n) = MayCall calls (call.SyncTables n)
MayMake next w calls (NameTables n) = MayCall calls (call.NameTables n)
MayMake next w calls (SyncName n) = MayCall calls (call.SyncName n)
MayMake next w calls (DropTables n newer) = MayCall calls (call.DropTables n newer)
MayMake next w calls (DropSegment n newer) = MayCall calls (call.DropSegment n newer)
MayMake next w calls step = IsAllowed next w step

-- the calls after a step: what a server does to its own segment ends its turn, but commits go on
abbrev pub calls_after : {T C : Type 0} → List StoreCall → Step T C → List StoreCall
calls_after calls (Commit commit) = calls
calls_after calls (Tell at count) = calls
calls_after calls (Begin at new) = call.BeginSegment at new ∷ calls
calls_after calls SyncNames = call.SyncNames ∷ calls
calls_after calls (GoOn at new) = call.GoOn at new ∷ calls
calls_after calls (Fold found tables) = call.WriteTables (end_of found.after found.closed) ∷ calls
calls_after calls (SyncTables n) = call.SyncTables n ∷ calls
calls_after calls (NameTables n) = call.NameTables n ∷ calls
calls_after calls (SyncName n) = call.SyncName n ∷ calls
calls_after calls (DropTables n newer) = call.DropTables n newer ∷ calls
calls_after calls (DropSegment n newer) = call.DropSegment n newer ∷ calls
calls_after calls _ = []

-- what is found is so
abbrev pub IsSo : {T C : Type 0} → World T C → Caller → StoreCall → Type 0
IsSo {T} w Checkpoint (call.FindNewest n) = (tables : T) × AreNewest (reads w).tables n tables
IsSo {T} w Checkpoint (call.FindTables n) = (tables : T) × ((reads w).tables n ≡ Some tables)
IsSo {T} {C} w Checkpoint (call.FindSegment n) = (commits : List C) × ((reads w).segments n ≡ Some commits)
IsSo {T} {C} w Server (call.EndSegment at n) = (segment : Segment C) × IsActive w at segment × IsFull at n segment
IsSo w caller _ = ⊥

-- the calls of both, each since it began, the newest first
pub record Calls : Type 0 where
  pub server : List StoreCall
  pub checkpoint : List StoreCall

abbrev pub no_calls : Calls
no_calls = record { server = []; checkpoint = [] }

abbrev pub calls_of : Calls → Caller → List StoreCall
calls_of calls Server = calls.server
calls_of calls Checkpoint = calls.checkpoint

abbrev pub with_calls : Calls → Caller → List StoreCall → Calls
with_calls calls Server its = record { server = its; checkpoint = calls.checkpoint }
with_calls calls Checkpoint its = record { server = calls.server; checkpoint = its }

-- each of these events may happen, one after another
abbrev pub MayHappen : {T C : Type 0} → (T → C → T) → World T C → Calls → List (Event T C) → Type 0
MayHappen next w calls [] = Unit {0}
MayHappen next w calls (Makes who step ∷ events) =
    IsBy who step × MayMake next w (calls_of calls who) step
    × MayHappen next (after w step) (with_calls calls who (calls_after (calls_of calls who) step)) events
MayHappen next w calls (Fails who (Some step) ∷ events) =
    IsBy who step × MayMake next w (calls_of calls who) step
    × MayHappen next (after w step) (with_calls calls who (call.Fail ∷ calls_of calls who)) events
MayHappen next w calls (Fails who None ∷ events) =
    MayHappen next w (with_calls calls who (call.Fail ∷ calls_of calls who)) events
MayHappen next w calls (Finding who is ∷ events) =
    IsSo w who is × MayHappen next w (with_calls calls who (is ∷ calls_of calls who)) events
MayHappen next w calls (Begins who ∷ events) = MayHappen next w (with_calls calls who []) events
MayHappen next w calls (Crashes left ∷ events) =
    MayLeave w left × MayHappen next (after w (Crash left)) no_calls events

-- the steps that they make
abbrev pub steps_of : {T C : Type 0} → List (Event T C) → List (Step T C)
steps_of [] = []
steps_of (Makes who step ∷ events) = step ∷ steps_of events
steps_of (Fails who (Some step) ∷ events) = step ∷ steps_of events
steps_of (Crashes left ∷ events) = Crash left ∷ steps_of events
steps_of (_ ∷ events) = steps_of events

-- calls by the rules are a run of the machine
abbrev pub CallsAreARun : {T C : Type 0} → (T → C → T) → Type 0
CallsAreARun {T} {C} next = (first : T) (events : List (Event T C)) → MayHappen next (new_world first) no_calls events
    → IsRun next (new_world first) (steps_of events)

-- so whatever a crash leaves, a start finds a beginning of the log, with all that anyone was told of
abbrev pub CallsKeepWhatWasTold : {T C : Type 0} → (T → C → T) → Type 0
CallsKeepWhatWasTold {T} {C} next = (first : T) (events : List (Event T C))
    → MayHappen next (new_world first) no_calls events
    → let w = after_all (new_world first) (steps_of events) in (left : Store T C) → MayLeave w left
    → (found : Found T C) × Finds left found × IsBeginning next first w.log w.told found
