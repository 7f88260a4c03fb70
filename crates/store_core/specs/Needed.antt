-- What the machine loses without one of its rules: each is needed.
use Rattle.std.specs.Prelude.{ℕ, List, [], ◌∷◌, ◌++◌}
use Rattle.store_core.specs.Found.{Store, Found, Finds, IsBeginning}
use Rattle.store_core.specs.World.{Step, Commit, Append, Sync, Tell, Begin, SyncNames, GoOn, SyncTables, NameTables}
use Rattle.store_core.specs.World.{SyncName, DropSegment, new_world, MayLeave}
use Rattle.store_core.specs.Runs.{IsRun, after_all}
use Rattle.store_core.specs.Worked.{one_more, first_start, served_steps, fold_first}

-- a run, then steps that break a rule, then a run: a crash may leave a store where no start finds all that was told
pub record Loses (before broken later : List (Step (List ℕ) ℕ)) : Type 0 where
  pub run : IsRun one_more (new_world []) before
  pub goes_on : IsRun one_more (after_all (new_world []) (before ++ broken)) later
  pub left : Store (List ℕ) ℕ
  pub may : MayLeave (after_all (new_world []) (before ++ broken ++ later)) left
  pub lost : (found : Found (List ℕ) ℕ) → Finds left found
      → IsBeginning one_more [] (after_all (new_world []) (before ++ broken ++ later)).log
      (after_all (new_world {C = ℕ} []) (before ++ broken ++ later)).told found → ⊥

-- tables get their name before they are on the disk
abbrev pub NamesUnsynced : Type 0
NamesUnsynced = Loses (served_steps ++ fold_first ∷ []) (NameTables 1 ∷ []) (SyncName 1 ∷ [])

-- a segment goes before the name of newer tables is on the disk
abbrev pub DropsEarly : Type 0
DropsEarly = Loses (served_steps ++ fold_first ∷ SyncTables 1 ∷ NameTables 1 ∷ []) (DropSegment 0 1 ∷ []) []

-- the next segment is begun and gone on with before the old one is on the disk
abbrev pub BeginsEarly : Type 0
BeginsEarly = Loses (first_start ∷ Commit 7 ∷ Append 0 1 ∷ []) (Begin 0 1 ∷ SyncNames ∷ GoOn 0 1 ∷ [])
    (Commit 8 ∷ Append 1 2 ∷ Sync 1 ∷ Tell 1 2 ∷ [])

-- the next segment is gone on with before its name is on the disk
abbrev pub GoesOnEarly : Type 0
GoesOnEarly = Loses (first_start ∷ Commit 7 ∷ Append 0 1 ∷ Sync 0 ∷ Begin 0 1 ∷ []) (GoOn 0 1 ∷ [])
    (Commit 8 ∷ Append 1 2 ∷ Sync 1 ∷ Tell 1 2 ∷ [])

-- a segment is folded that none with commits follows
abbrev pub FoldsOpen : Type 0
FoldsOpen = Loses (first_start ∷ Commit 7 ∷ Append 0 1 ∷ []) (fold_first ∷ [])
    (SyncTables 1 ∷ NameTables 1 ∷ SyncName 1 ∷ [])
