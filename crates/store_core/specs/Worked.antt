-- A run with each of the steps, over numbers: tables are the list of the commits that they have.
use Rattle.std.specs.Prelude.{◌≡◌, ℕ, List, [], ◌∷◌, ◌++◌, Some, None}
use Rattle.store_core.specs.World.{World, Step, Commit, Append, Sync, Tell, Begin, SyncNames, GoOn, Fold, SyncTables, NameTables}
use Rattle.store_core.specs.World.{SyncName, DropTables, DropSegment, Stop, Start, new_world, reads}
use Rattle.store_core.specs.Runs.{IsRun, after_all}
use Rattle.store_core.specs.Called.{Event, Makes, Finding, Begins, Server, Checkpoint, no_calls, MayHappen, steps_of}
use Rattle.store_core.specs.declared.calls.StoreCall.TheVariants as call

abbrev pub one_more : List ℕ → ℕ → List ℕ
one_more tables commit = tables ++ commit ∷ []

-- a server starts with a new store
abbrev pub first_start : Step (List ℕ) ℕ
first_start = Start record { after = 0; tables = []; closed = []; last = [] }

-- it commits 7, tells it, and goes on in a second segment, where it commits 8
abbrev pub served_steps : List (Step (List ℕ) ℕ)
served_steps =
    first_start ∷ Commit 7 ∷ Append 0 1 ∷ Sync 0 ∷ Tell 0 1 ∷ Begin 0 1 ∷ SyncNames ∷ GoOn 0 1 ∷ Commit 8 ∷ Append 1 2
    ∷ Sync 1 ∷ []

-- a checkpoint folds the first segment
abbrev pub fold_first : Step (List ℕ) ℕ
fold_first = Fold record { after = 0; tables = []; closed = (7 ∷ []) ∷ []; last = 8 ∷ [] } (7 ∷ [])

-- it names the new tables, and drops what no start needs any more, while the server commits 9
abbrev pub worked_steps : List (Step (List ℕ) ℕ)
worked_steps = served_steps
    ++ fold_first ∷ SyncTables 1 ∷ NameTables 1 ∷ SyncName 1 ∷ DropSegment 0 1 ∷ DropTables 0 1 ∷ Commit 9 ∷ Append 1 3 ∷ Stop ∷ []

-- it is a run; in the end 7, 8 and 9 are the log, one commit was told, and tables after one commit stand there
abbrev pub WorkedRun : Type 0
WorkedRun = let w : World (List ℕ) ℕ = after_all (new_world []) worked_steps in
    IsRun one_more (new_world []) worked_steps × (w.log ≡ 7 ∷ 8 ∷ 9 ∷ []) × (w.told ≡ 1)
    × ((reads w).tables 1 ≡ Some (7 ∷ [])) × ((reads w).tables 0 ≡ None) × ((reads w).segments 0 ≡ None)
    × ((reads w).segments 1 ≡ Some (8 ∷ 9 ∷ []))

-- the same as calls by the rules
abbrev pub worked_events : List (Event (List ℕ) ℕ)
worked_events =
    Makes Server first_start ∷ Makes Server (Commit 7) ∷ Makes Server (Append 0 1) ∷ Makes Server (Sync 0)
    ∷ Makes Server (Tell 0 1) ∷ Finding Server (call.EndSegment 0 1) ∷ Makes Server (Begin 0 1) ∷ Makes Server SyncNames
    ∷ Makes Server (GoOn 0 1) ∷ Makes Server (Commit 8) ∷ Makes Server (Append 1 2) ∷ Makes Server (Sync 1)
    ∷ Begins Checkpoint ∷ Finding Checkpoint (call.FindNewest 0) ∷ Finding Checkpoint (call.FindSegment 1)
    ∷ Makes Checkpoint fold_first ∷ Makes Checkpoint (SyncTables 1) ∷ Makes Checkpoint (NameTables 1)
    ∷ Makes Checkpoint (SyncName 1) ∷ Makes Checkpoint (DropSegment 0 1) ∷ Makes Checkpoint (DropTables 0 1)
    ∷ Makes Server (Commit 9) ∷ Makes Server (Append 1 3) ∷ Makes Server Stop ∷ []

abbrev pub WorkedCalls : Type 0
WorkedCalls = MayHappen one_more (new_world []) no_calls worked_events × (steps_of worked_events ≡ worked_steps)
