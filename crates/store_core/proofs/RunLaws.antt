-- Every run of a new store keeps it.
use Rattle.std.proofs.Common.{◌≡◌, ◌⊎◌, ℕ, zero, suc, ◌+◌, ◌<◌, ◌≤◌, List, [], ◌∷◌, ◌++◌, length, take, le_refl}
use Rattle.std.proofs.Common.{refl, sym, ap, ◌∙◌, inl, inr, arith, Option, Some, None, IfSome, subst}
use Rattle.std.proofs.lemmas.List.{take-append-le}
use Rattle.store_core.specs.Places.{sure, MayStand, Segment, empty, Written, whole}
use Rattle.store_core.specs.Found.{Found, joined, Finds, IsBeginning, tables_after}
use Rattle.store_core.specs.World.{World, Step, Commit, Append, Sync, Tell, Begin, SyncNames, GoOn, Fold, SyncTables, NameTables}
use Rattle.store_core.specs.World.{SyncName, DropTables, DropSegment, Stop, Crash, Start, first_tables, first_segment, new_world, reads}
use Rattle.store_core.specs.World.{IsAllowed, after}
use Rattle.store_core.specs.Runs.{IsRun, after_all, NothingToldIsLost, WhatIsToldStays}
use Rattle.store_core.proofs.ChainLaws.{stands-sure}
use Rattle.store_core.proofs.Keeping.{IsPart, Kept, raised, IsTablesAt, log-length}
use Rattle.store_core.proofs.StepLaws.{commit_keeps, append_keeps, sync_keeps, tell_keeps, begin_keeps, names_keep}
use Rattle.store_core.proofs.StepLaws.{goes_on_keeps, name_synced_keeps}
use Rattle.store_core.proofs.TableLaws.{fold_keeps, sync_tables_keeps, name_keeps, above, drop_tables_keeps}
use Rattle.store_core.proofs.TableLaws.{drop_segment_keeps, stop_keeps}
use Rattle.store_core.proofs.Settling.{Settled, found_of, found_end, settle, settled-log, settled-length, settled-taken, is-beginning}
use Rattle.store_core.proofs.StartLaws.{crash_keeps, started, may-read, found-is}

-- a new store
first-none : {T : Type 0} (first : T) (n : ℕ) → 0 < n → first_tables first n ≡ sure None
first-none first zero far = absurd (omega arith)
first-none first (suc n) far = refl

segment-none : {C : Type 0} (n : ℕ) → 0 < n → first_segment {C = C} n ≡ sure None
segment-none zero far = absurd (omega arith)
segment-none (suc n) far = refl

pub new_keeps : {T C : Type 0} (next : T → C → T) (first : T) → Kept {C = C} next 0 (new_world first)
new_keeps {T} {C} next first = record {
  chained = record {
    front = [];
    closed = [];
    last = empty;
    rest = [];
    log = refl;
    synced = omega arith;
    told = omega arith;
    durable = omega arith;
    chain = refl;
    newer = λ n far file stands. subst (λ (o : Option (Written T)). IfSome o (IsTablesAt next first [] 0 [] n))
        (sym (stands-sure (first_tables first n) None file (first-none first n far) stands)) tt;
    others = λ n far. inr (λ file stands.
        subst (λ (o : Option (Segment C)). IfSome o (λ (s : Segment C). s.commits ≡ []))
        (sym (stands-sure (first_segment {C = C} n) None file (segment-none n far) stands)) tt);
    written = λ n far. tt;
    active = tt;
  };
  root = refl;
  old = record {
    tables = λ n file stands. old-first n file stands;
    segments = λ n file stands. old-segment n file stands;
    written = λ n. tt;
  };
}
  where
    old-first : (n : ℕ) (file : Option (Written T)) → MayStand (first_tables first n) file
        → IfSome file (λ (f : Written T). (n ≤ 0) × (f ≡ whole (tables_after next first (take n []))))
    old-first zero file stands =
        subst (λ (o : Option (Written T)). IfSome o
        (λ (f : Written T). (0 ≤ 0) × (f ≡ whole (tables_after next first (take 0 [])))))
        (sym (stands-sure (first_tables first 0) (Some (whole first)) file refl stands)) (omega arith, refl)
    old-first (suc n) file stands =
        subst (λ (o : Option (Written T)). IfSome o
        (λ (f : Written T). (suc n ≤ 0) × (f ≡ whole (tables_after next first (take (suc n) [])))))
        (sym (stands-sure (first_tables first (suc n)) None file refl stands)) tt

    old-segment : (n : ℕ) (file : Option (Segment C)) → MayStand (first_segment n) file
        → (n ≡ 0) ⊎ IfSome file (λ (s : Segment C). IsPart [] 0 n s.commits)
    old-segment zero file stands = inl refl
    old-segment (suc n) file stands =
        inr (subst (λ (o : Option (Segment C)). IfSome o (λ (s : Segment C). IsPart [] 0 (suc n) s.commits))
        (sym (stands-sure (first_segment {C = C} (suc n)) None file refl stands)) tt)

pub step_keeps : {T C : Type 0} (next : T → C → T) (d : ℕ) (w : World T C) → Kept next d w → (step : Step T C)
    → IsAllowed next w step → Kept next d (after w step)
step_keeps next d w k (Commit x) may = commit_keeps next d w k x
step_keeps next d w k (Append at count) may = append_keeps next d w k at count may.0 may.1 may.2
step_keeps next d w k (Sync at) may = sync_keeps next d w k at may
step_keeps next d w k (Tell at count) may = tell_keeps next d w k at count may.0 may.1 may.2
step_keeps next d w k (Begin at new) may = begin_keeps next d w k at new may.0 may.1 may.2
step_keeps next d w k SyncNames may = names_keep next d w k
step_keeps next d w k (GoOn at new) may = goes_on_keeps next d w k at new may.0 may.1 may.2 may.3
step_keeps next d w k (Fold found tables) may = fold_keeps next d w k found tables may.0 may.1 may.2
step_keeps next d w k (SyncTables n) may = sync_tables_keeps next d w k n
step_keeps next d w k (NameTables n) may = name_keeps next d w k n may.0 may.1 may.2
step_keeps next d w k (SyncName n) may = name_synced_keeps next d w k n
step_keeps next d w k (DropTables n newer) may =
    let a = above next d w k n newer may in drop_tables_keeps next d w a.0 n a.1
step_keeps next d w k (DropSegment n newer) may =
    let a = above next d w k n newer may in drop_segment_keeps next d w a.0 n a.1
step_keeps next d w k Stop may = stop_keeps next d w k
step_keeps next d w k (Crash left) may = crash_keeps next d w k.chained left (settle next d w k left may)
step_keeps next d w k (Start found) may = started next d w k found may.1

pub run_keeps : {T C : Type 0} (next : T → C → T) (d : ℕ) (w : World T C) (steps : List (Step T C)) → Kept next d w
    → IsRun next w steps → Kept next d (after_all w steps)
run_keeps next d w [] k run = k
run_keeps next d w (step ∷ steps) k run = run_keeps next d (after w step) steps (step_keeps next d w k step run.0) run.1

-- so many commits stay in the log, no fewer are told, and the first tables are the same
pub record Stays {T C : Type 0} (d : ℕ) (w v : World T C) : Type 0 where
  pub first : v.first ≡ w.first
  pub told : w.told ≤ v.told
  pub log : (m : ℕ) → m ≤ d → take m v.log ≡ take m w.log

pub durable-inside : {T C : Type 0} (next : T → C → T) (d : ℕ) (w : World T C) (k : Kept next d w) → d ≤ length w.log
durable-inside next d w k =
    let l = log-length next d w k.chained in
    let t = k.chained.durable in
    let s = k.chained.synced in
    omega arith

stays-start : {T C : Type 0} (next : T → C → T) (d : ℕ) (w : World T C) (k : Kept next d w) (found : Found T C)
    → Finds (reads w) found → Stays d w (after w (Start found))
stays-start {T} {C} next d w k found finds =
    let s = settle next d w k (reads w) (may-read w) in
    subst (λ (f : Found T C). Stays d w (after w (Start f))) (sym (found-is next d w k.chained (reads w) s found finds))
    record { first = refl; told = le_refl w.told; log = same s }
  where
    same : (s : Settled next d w k.chained (reads w)) (m : ℕ) → m ≤ d
        → take m (take (found_end s + length s.last) w.log) ≡ take m w.log
    same s m few =
        let durable = s.durable in
        let long = settled-length next d w k.chained (reads w) s in
        ap (take m) (settled-taken next d w k.chained (reads w) s)
        ∙ sym (take-append-le m (s.front ++ joined s.closed s.last) s.rest (omega arith))
        ∙ ap (take m) (sym (settled-log next d w k.chained (reads w) s))

-- of a step that leaves the log
stays-same : {T C : Type 0} (d : ℕ) (w v : World T C) → v.first ≡ w.first → w.told ≤ v.told → v.log ≡ w.log → Stays d w v
stays-same d w v first told log = record { first = first; told = told; log = λ m few. ap (take m) log }

step_stays : {T C : Type 0} (next : T → C → T) (d : ℕ) (w : World T C) → Kept next d w → (step : Step T C)
    → IsAllowed next w step → Stays d w (after w step)
step_stays next d w k (Commit x) may = record {
  first = refl;
  told = le_refl w.told;
  log = λ m few. take-append-le m w.log (x ∷ []) (let t = durable-inside next d w k in omega arith);
}
step_stays next d w k (Append at count) may = stays-same d w (after w (Append at count)) refl (le_refl w.told) refl
step_stays next d w k (Sync at) may = stays-same d w (after w (Sync at)) refl (le_refl w.told) refl
step_stays next d w k (Tell at count) may = stays-same d w (after w (Tell at count)) refl (omega arith) refl
step_stays next d w k (Begin at new) may = stays-same d w (after w (Begin at new)) refl (le_refl w.told) refl
step_stays next d w k SyncNames may = stays-same d w (after w SyncNames) refl (le_refl w.told) refl
step_stays next d w k (GoOn at new) may = stays-same d w (after w (GoOn at new)) refl (le_refl w.told) refl
step_stays next d w k (Fold found tables) may = stays-same d w (after w (Fold found tables)) refl (le_refl w.told) refl
step_stays next d w k (SyncTables n) may = stays-same d w (after w (SyncTables n)) refl (le_refl w.told) refl
step_stays next d w k (NameTables n) may = stays-same d w (after w (NameTables n)) refl (le_refl w.told) refl
step_stays next d w k (SyncName n) may = stays-same d w (after w (SyncName n)) refl (le_refl w.told) refl
step_stays next d w k (DropTables n newer) may = stays-same d w (after w (DropTables n newer)) refl (le_refl w.told) refl
step_stays next d w k (DropSegment n newer) may = stays-same d w (after w (DropSegment n newer)) refl (le_refl w.told) refl
step_stays next d w k Stop may = stays-same d w (after w Stop) refl (le_refl w.told) refl
step_stays next d w k (Crash left) may = stays-same d w (after w (Crash left)) refl (le_refl w.told) refl
step_stays next d w k (Start found) may = stays-start next d w k found may.1

pub run_stays : {T C : Type 0} (next : T → C → T) (d : ℕ) (w : World T C) (steps : List (Step T C)) → Kept next d w
    → IsRun next w steps → Stays d w (after_all w steps)
run_stays next d w [] k run = stays-same d w w refl (le_refl w.told) refl
run_stays next d w (step ∷ steps) k run =
    let one : Stays d w (after w step) = step_stays next d w k step run.0 in
    let rest : Stays d (after w step) (after_all (after w step) steps) =
    run_stays next d (after w step) steps (step_keeps next d w k step run.0) run.1 in
    record {
      first = rest.first ∙ one.first;
      told = (let a = one.told in let b = rest.told in omega arith);
      log = λ m few. rest.log m few ∙ one.log m few;
    }

pub nothing_told_is_lost : {T C : Type 0} (next : T → C → T) → NothingToldIsLost next
nothing_told_is_lost {T} {C} next first steps run left may =
    let k : Kept next 0 (after_all (new_world first) steps) =
    run_keeps next 0 (new_world first) steps (new_keeps next first) run in
    let stays : Stays 0 (new_world first) (after_all (new_world first) steps) =
    run_stays next 0 (new_world first) steps (new_keeps next first) run in
    let s = settle next 0 (after_all (new_world first) steps) k left may in (
      found_of s,
      s.finds,
      subst (λ (t : T). IsBeginning next t (after_all (new_world first) steps).log
          (after_all (new_world {C = C} first) steps).told (found_of s)) stays.first
          (is-beginning next 0 (after_all (new_world first) steps) k.chained left s),
    )

pub run-parts : {T C : Type 0} (next : T → C → T) (w : World T C) (steps later : List (Step T C))
    → IsRun next w (steps ++ later) → IsRun next w steps × IsRun next (after_all w steps) later
run-parts next w [] later run = (tt, run)
run-parts next w (step ∷ steps) later run =
    let rest = run-parts next (after w step) steps later run.1 in ((run.0, rest.0), rest.1)

pub what_is_told_stays : {T C : Type 0} (next : T → C → T) → WhatIsToldStays next
what_is_told_stays {T} {C} next first steps later run =
    let w : World T C = after_all (new_world first) steps in
    let parts = run-parts next (new_world first) steps later run in
    let kept : Kept next 0 w = run_keeps next 0 (new_world first) steps (new_keeps next first) parts.0 in
    let stays : Stays w.told w (after_all w later) =
    run_stays next w.told w later (raised next 0 w kept w.told kept.chained.told) parts.1 in
    (stays.told, stays.log w.told (le_refl w.told))
