-- A run with each of the steps.
use Rattle.std.proofs.Common.{◌≡◌, ◌⊎◌, ℕ, zero, suc, ◌<◌, List, [], ◌∷◌, ◌++◌, refl, arith, rules, inr, None, IfSome}
use Rattle.store_core.specs.Places.{settled, empty}
use Rattle.store_core.specs.Found.{Finds, IsBegin}
use Rattle.store_core.specs.World.{World, Step, Commit, Append, Sync, Tell, Begin, SyncNames, GoOn, SyncTables, NameTables}
use Rattle.store_core.specs.World.{SyncName, DropTables, DropSegment, Stop, IsAllowed, new_world, reads}
use Rattle.store_core.specs.Runs.{IsRun, after_all}
use Rattle.store_core.specs.Worked.{one_more, first_start, served_steps, fold_first, WorkedRun}

-- a run, and one that goes on behind it
pub run-joined : (w : World (List ℕ) ℕ) (steps later : List (Step (List ℕ) ℕ)) → IsRun one_more w steps
    → IsRun one_more (after_all w steps) later → IsRun one_more w (steps ++ later)
run-joined w [] later run rest = rest
run-joined w (step ∷ steps) later run rest = (run.0, run-joined (after_all w (step ∷ [])) steps later run.1 rest)

none-newer : (n : ℕ) → 0 < n → (reads (new_world {T = List ℕ} {C = ℕ} [])).tables n ≡ None
none-newer zero far = absurd (omega arith)
none-newer (suc n) far = refl

no-gap : (n : ℕ) → 0 < n → IsBegin {C = ℕ} 0 [] n
    ⊎ IfSome ((reads (new_world {T = List ℕ} {C = ℕ} [])).segments n) (λ commits. commits ≡ [])
no-gap zero far = absurd (omega arith)
no-gap (suc n) far = inr tt

pub first-found : Finds (reads (new_world {T = List ℕ} {C = ℕ} [])) (record { after = 0; tables = []; closed = []; last = [] })
first-found = record {
  newest = record { are = refl; none_newer = none-newer };
  chain = (refl, tt);
  no_gap = no-gap;
}

-- a server that has started commits 7 and writes it
pub written-run : IsRun one_more (new_world []) (first_start ∷ Commit 7 ∷ Append 0 1 ∷ [])
written-run = ((refl, first-found), (search rules, ((settled [], (refl, refl), omega arith), tt)))

-- syncs it, and begins the next segment
pub begun-run : IsRun one_more (new_world []) (first_start ∷ Commit 7 ∷ Append 0 1 ∷ Sync 0 ∷ Begin 0 1 ∷ [])
begun-run =
    run-joined (new_world []) (first_start ∷ Commit 7 ∷ Append 0 1 ∷ []) (Sync 0 ∷ Begin 0 1 ∷ []) written-run
    (refl, ((settled (7 ∷ []), (refl, refl), record { some = omega arith; synced = refl; next_is = refl }), tt))

pub served-run : IsRun one_more (new_world []) served_steps
served-run =
    run-joined (new_world []) (first_start ∷ Commit 7 ∷ Append 0 1 ∷ [])
    (Sync 0 ∷ Tell 0 1 ∷ Begin 0 1 ∷ SyncNames ∷ GoOn 0 1 ∷ Commit 8 ∷ Append 1 2 ∷ Sync 1 ∷ []) written-run (
      refl,
      (
        (settled (7 ∷ []), (refl, refl), omega arith),
        (
          (settled (7 ∷ []), (refl, refl), record { some = omega arith; synced = refl; next_is = refl }),
          (
            tt,
            (
              (settled (7 ∷ []), (refl, refl), record { some = omega arith; synced = refl; next_is = refl }, refl),
              (
                search rules,
                ((empty, (refl, refl), omega arith), (refl, tt)),
              ),
            ),
          ),
        ),
      ),
    )

pub none-then : (n : ℕ) → 0 < n → (reads (after_all (new_world []) served_steps)).tables n ≡ None
none-then zero far = absurd (omega arith)
none-then (suc n) far = refl

pub fold-allowed : IsAllowed one_more (after_all (new_world []) served_steps) fold_first
fold-allowed = (record { are = refl; none_newer = none-then }, (refl, omega arith, (refl, omega arith)), refl)

pub worked_run : WorkedRun
worked_run = (
  run-joined (new_world []) served_steps
      (fold_first ∷ SyncTables 1 ∷ NameTables 1 ∷ SyncName 1 ∷ DropSegment 0 1 ∷ DropTables 0 1 ∷ Commit 9 ∷ Append 1 3 ∷ Stop ∷ [])
      served-run (
        fold-allowed,
        (
          tt,
          (
            (7 ∷ [], refl, refl),
            (
              tt,
              (
                (omega arith, (7 ∷ [], refl)),
                (
                  (omega arith, (7 ∷ [], refl)),
                  (search rules, ((settled (8 ∷ []), (refl, refl), omega arith), (tt, tt))),
                ),
              ),
            ),
          ),
        ),
      ),
  refl,
  refl,
  refl,
  refl,
  refl,
  refl,
)
