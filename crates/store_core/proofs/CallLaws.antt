-- Calls by the rules are a run of the machine: what is known by them is so.
use Rattle.std.proofs.Common.{◌≡◌, ℕ, false, ◌+◌, ◌<◌, ◌≤◌, List, [], ◌∷◌, length, refl, sym, ap, ◌∙◌, inl, arith}
use Rattle.std.proofs.Common.{Option, Some, None, IfSome, IsSome, option_map, subst, rules}
use Rattle.store_core.specs.Places.{Place, sure, renamed, Segment, empty, settled, Written, whole}
use Rattle.store_core.specs.Found.{end_of}
use Rattle.store_core.specs.World.{World, Step, Commit, Append, Sync, Tell, Begin, SyncNames, GoOn, Fold, SyncTables, NameTables}
use Rattle.store_core.specs.World.{SyncName, DropTables, DropSegment, Stop, Crash, Start, IsFull, IsAllowed, HasNewer}
use Rattle.store_core.specs.World.{new_world, reads, after, changed_at}
use Rattle.store_core.specs.Runs.{IsRun}
use Rattle.store_core.specs.Calls.{TablesKnown, Unknown, NoTables, Newest, Unnamed, OnDisk, Named, Sure, tables_known, AreFree}
use Rattle.store_core.specs.Calls.{SegmentKnown, Nothing, There, Ended, Begun, Ready, names_synced, segment_known}
use Rattle.store_core.specs.Called.{Server, Checkpoint, Event, Makes, Fails, Finding, Begins, Crashes}
use Rattle.store_core.specs.Called.{IsBy, MayMake, calls_after, IsSo, Calls, no_calls, with_calls, MayHappen, steps_of}
use Rattle.store_core.specs.Called.{CallsAreARun, CallsKeepWhatWasTold}
use Rattle.store_core.specs.Worked.{WorkedCalls}
use Rattle.store_core.specs.declared.calls.StoreCall.{StoreCall}
use Rattle.store_core.specs.declared.calls.StoreCall.TheVariants as call
use Rattle.store_core.proofs.ListLaws.{end-after}
use Rattle.store_core.proofs.ChainLaws.{changed-same, changed-other}
use Rattle.store_core.proofs.Keeping.{Kept, AreOldTables, last_at, active-is}
use Rattle.store_core.proofs.TableLaws.{above}
use Rattle.store_core.proofs.RunLaws.{new_keeps, step_keeps, nothing_told_is_lost}
use Rattle.store_core.proofs.WorkedLaws.{first-found, none-then, fold-allowed}

-- what is known of tables is so; the machine begins with a store
abbrev AreAs : {T : Type 0} → (ℕ → Place (Written T)) → (ℕ → Option (Written T)) → TablesKnown → Type 0
AreAs tables written Unknown = Unit {0}
AreAs tables written NoTables = ⊥
AreAs tables written (Newest n) = (m : ℕ) → n < m → (tables m).now ≡ None
AreAs {T} tables written (Unnamed n) = ((tables n).now ≡ None) × ((file : Written T) × (written n ≡ Some file))
AreAs {T} tables written (OnDisk n) = ((tables n).now ≡ None) × ((is : T) × (written n ≡ Some (whole is)))
AreAs {T} tables written (Named n) = (is : T) × ((tables n).now ≡ Some (whole is))
AreAs {T} tables written (Sure n) = (is : T) × (tables n ≡ sure (Some (whole is)))

-- a server's segment is there, and the next one begins where it ends
abbrev Turns : {C : Type 0} → Option ℕ → (ℕ → Place (Segment C)) → ℕ → ℕ → Segment C → Type 0
Turns active segments at n segment =
    (active ≡ Some at) × ((segments at).now ≡ Some segment) × IsFull at n segment

-- and what is known of segments
abbrev IsAs : {C : Type 0} → Option ℕ → (ℕ → Place (Segment C)) → SegmentKnown → Type 0
IsAs active segments Nothing = Unit {0}
IsAs active segments (There n) = Unit {0}
IsAs {C} active segments (Ended at n) = (segment : Segment C) × Turns active segments at n segment
IsAs {C} active segments (Begun at n) =
    (segment : Segment C) × Turns active segments at n segment × ((segments n).now ≡ Some empty)
IsAs {C} active segments (Ready at n) =
    (segment : Segment C) × Turns active segments at n segment × (segments n ≡ sure (Some empty))

record Holds {T C : Type 0} (w : World T C) (calls : Calls) : Type 0 where
  tables : AreAs w.tables w.written (tables_known calls.checkpoint)
  segment : IsAs w.active w.segments (segment_known calls.server)

-- a step that may be made by the rules is allowed
server_may : {T C : Type 0} (next : T → C → T) (w : World T C) (calls : List StoreCall) (step : Step T C)
    → IsAs w.active w.segments (segment_known calls) → IsBy Server step → MayMake next w calls step
    → IsAllowed next w step
server_may next w calls (Commit x) is by may = may
server_may next w calls (Append at count) is by may = may
server_may next w calls (Sync at) is by may = may
server_may next w calls (Tell at count) is by may = may
server_may next w calls (Begin at new) is by may =
    let so = subst (IsAs w.active w.segments) may is in (so.0, (so.1.0, so.1.1), so.1.2)
server_may next w calls SyncNames is by may = tt
server_may next w calls (GoOn at new) is by may =
    let so = subst (IsAs w.active w.segments) may is in (so.0, (so.1.0, so.1.1), so.1.2, so.2)
server_may next w calls (Fold found tables) is by may = absurd by
server_may next w calls (SyncTables n) is by may = absurd by
server_may next w calls (NameTables n) is by may = absurd by
server_may next w calls (SyncName n) is by may = absurd by
server_may next w calls (DropTables n newer) is by may = absurd by
server_may next w calls (DropSegment n newer) is by may = absurd by
server_may next w calls Stop is by may = tt
server_may next w calls (Crash left) is by may = absurd by
server_may next w calls (Start found) is by may = may

checkpoint_may : {T C : Type 0} (next : T → C → T) (w : World T C) (calls : List StoreCall) (step : Step T C)
    → AreAs w.tables w.written (tables_known calls) → IsBy Checkpoint step → MayMake next w calls step
    → IsAllowed next w step
checkpoint_may next w calls (Commit x) are by may = absurd by
checkpoint_may next w calls (Append at count) are by may = absurd by
checkpoint_may next w calls (Sync at) are by may = absurd by
checkpoint_may next w calls (Tell at count) are by may = absurd by
checkpoint_may next w calls (Begin at new) are by may = absurd by
checkpoint_may next w calls SyncNames are by may = tt
checkpoint_may next w calls (GoOn at new) are by may = absurd by
checkpoint_may next w calls (Fold found tables) are by may = may.1
checkpoint_may next w calls (SyncTables n) are by may = tt
checkpoint_may next w calls (NameTables n) are by may =
    let so = subst (AreAs w.tables w.written) may.0 are in (so.1.0, so.1.1, so.0)
checkpoint_may next w calls (SyncName n) are by may = tt
checkpoint_may next w calls (DropTables n newer) are by may = (may.0, subst (AreAs w.tables w.written) may.1 are)
checkpoint_may next w calls (DropSegment n newer) are by may = (may.0, subst (AreAs w.tables w.written) may.1 are)
checkpoint_may next w calls Stop are by may = absurd by
checkpoint_may next w calls (Crash left) are by may = absurd by
checkpoint_may next w calls (Start found) are by may = absurd by

-- each step of a server leaves what a checkpoint knows
server_leaves : {T C : Type 0} (w : World T C) (step : Step T C) (known : TablesKnown) → IsBy Server step
    → AreAs w.tables w.written known → AreAs (after w step).tables (after w step).written known
server_leaves w (Commit x) known by are = are
server_leaves w (Append at count) known by are = are
server_leaves w (Sync at) known by are = are
server_leaves w (Tell at count) known by are = are
server_leaves w (Begin at new) known by are = are
server_leaves w SyncNames known by are = are
server_leaves w (GoOn at new) known by are = are
server_leaves w (Fold found tables) known by are = absurd by
server_leaves w (SyncTables n) known by are = absurd by
server_leaves w (NameTables n) known by are = absurd by
server_leaves w (SyncName n) known by are = absurd by
server_leaves w (DropTables n newer) known by are = absurd by
server_leaves w (DropSegment n newer) known by are = absurd by
server_leaves w Stop known by are = are
server_leaves w (Crash left) known by are = absurd by
server_leaves w (Start found) known by are = are

-- where names are synced, what was known of segments is so
synced_as : {C : Type 0} (active : Option ℕ) (segments : ℕ → Place (Segment C)) (known : SegmentKnown)
    → IsAs active segments known → IsAs active (λ n. sure (segments n).now) known
synced_as active segments Nothing is = tt
synced_as active segments (There n) is = tt
synced_as active segments (Ended at n) is = is
synced_as active segments (Begun at n) is = is
synced_as {C} active segments (Ready at n) is =
    (is.0, is.1, ap (λ (p : Place (Segment C)). sure p.now) is.2)

-- and the next one is there whatever crashes
ready_as : {C : Type 0} (active : Option ℕ) (segments : ℕ → Place (Segment C)) (known : SegmentKnown)
    → IsAs active segments known → IsAs active (λ n. sure (segments n).now) (names_synced known)
ready_as active segments Nothing is = tt
ready_as active segments (There n) is = tt
ready_as active segments (Ended at n) is = is
ready_as active segments (Begun at n) is = (is.0, is.1, ap sure is.2)
ready_as {C} active segments (Ready at n) is =
    (is.0, is.1, ap (λ (p : Place (Segment C)). sure p.now) is.2)

-- another name changes, of a number before that of the server's segment
turns_apart : {C : Type 0} (active : Option ℕ) (segments : ℕ → Place (Segment C)) (number : ℕ)
    (f : Place (Segment C) → Place (Segment C)) (at n : ℕ) (segment : Segment C)
    → ((at : ℕ) → active ≡ Some at → number < at) → Turns active segments at n segment
    → Turns active (changed_at number f segments) at n segment × (changed_at number f segments n ≡ segments n)
turns_apart {C} active segments number f at n segment low turns =
    let before : number < at = low at turns.0 in
    let full : IsFull at n segment = turns.2 in
    let next_is : n ≡ at + length segment.commits = full.next_is in (
      (
        turns.0,
        ap (λ (p : Place (Segment C)). p.now) (changed-other number f segments at (λ e. omega (arith, e))) ∙ turns.1,
        turns.2,
      ),
      changed-other number f segments n (λ e. omega (arith, e)),
    )

apart_as : {C : Type 0} (active : Option ℕ) (segments : ℕ → Place (Segment C)) (number : ℕ)
    (f : Place (Segment C) → Place (Segment C)) (known : SegmentKnown)
    → ((at : ℕ) → active ≡ Some at → number < at) → IsAs active segments known
    → IsAs active (changed_at number f segments) known
apart_as active segments number f Nothing low is = tt
apart_as active segments number f (There n) low is = tt
apart_as active segments number f (Ended at n) low is =
    (is.0, (turns_apart active segments number f at n is.0 low is.1).0)
apart_as {C} active segments number f (Begun at n) low is =
    let apart = turns_apart active segments number f at n is.0 low is.1 in
    (is.0, apart.0, ap (λ (p : Place (Segment C)). p.now) apart.1 ∙ is.2)
apart_as active segments number f (Ready at n) low is =
    let apart = turns_apart active segments number f at n is.0 low is.1 in
    (is.0, apart.0, apart.1 ∙ is.2)

-- what lies before newer tables lies before the server's segment
before-active : {T C : Type 0} (next : T → C → T) (w : World T C) → Kept next 0 w → (n newer : ℕ) → HasNewer w n newer
    → (at : ℕ) → w.active ≡ Some at → n < at
before-active {T} {C} next w k n newer has at is =
    let a = above next 0 w k n newer has in
    let low : n < length a.0.chained.front = a.1 in
    let here : at ≡ end_of (length a.0.chained.front) a.0.chained.closed = active-is next 0 w a.0.chained at is in
    let far : length a.0.chained.front ≤ end_of (length a.0.chained.front) a.0.chained.closed =
    end-after (length a.0.chained.front) a.0.chained.closed in
    omega arith

-- each step of a checkpoint leaves what a server knows
checkpoint_leaves : {T C : Type 0} (next : T → C → T) (w : World T C) → Kept next 0 w → (step : Step T C)
    (known : SegmentKnown) → IsBy Checkpoint step → IsAllowed next w step → IsAs w.active w.segments known
    → IsAs (after w step).active (after w step).segments known
checkpoint_leaves next w k (Commit x) known by may is = absurd by
checkpoint_leaves next w k (Append at count) known by may is = absurd by
checkpoint_leaves next w k (Sync at) known by may is = absurd by
checkpoint_leaves next w k (Tell at count) known by may is = absurd by
checkpoint_leaves next w k (Begin at new) known by may is = absurd by
checkpoint_leaves next w k SyncNames known by may is = synced_as w.active w.segments known is
checkpoint_leaves next w k (GoOn at new) known by may is = absurd by
checkpoint_leaves next w k (Fold found tables) known by may is = is
checkpoint_leaves next w k (SyncTables n) known by may is = is
checkpoint_leaves next w k (NameTables n) known by may is = is
checkpoint_leaves next w k (SyncName n) known by may is = is
checkpoint_leaves next w k (DropTables n newer) known by may is = is
checkpoint_leaves next w k (DropSegment n newer) known by may is =
    apart_as w.active w.segments n (renamed None) known (before-active next w k n newer may) is
checkpoint_leaves next w k Stop known by may is = absurd by
checkpoint_leaves next w k (Crash left) known by may is = absurd by
checkpoint_leaves next w k (Start found) known by may is = absurd by

-- what a server knows behind its own step is so
begun_as : {C : Type 0} (active : Option ℕ) (segments : ℕ → Place (Segment C)) (at n : ℕ)
    → IsAs active segments (Ended at n) → IsAs active (changed_at n (renamed (Some empty)) segments) (Begun at n)
begun_as {C} active segments at n is =
    let full : IsFull at n is.0 = is.1.2 in
    let next_is : n ≡ at + length is.0.commits = full.next_is in
    let some : 0 < length is.0.commits = full.some in (
      is.0,
      (
        is.1.0,
        ap (λ (p : Place (Segment C)). p.now)
            (changed-other n (renamed (Some empty)) segments at (λ e. omega (arith, e))) ∙ is.1.1,
        full,
      ),
      ap (λ (p : Place (Segment C)). p.now) (changed-same n (renamed (Some empty)) segments n refl),
    )

server_knows : {T C : Type 0} (next : T → C → T) (w : World T C) (calls : List StoreCall) (step : Step T C)
    → IsAs w.active w.segments (segment_known calls) → IsBy Server step → MayMake next w calls step
    → IsAs (after w step).active (after w step).segments (segment_known (calls_after calls step))
server_knows next w calls (Commit x) is by may = is
server_knows next w calls (Append at count) is by may = tt
server_knows next w calls (Sync at) is by may = tt
server_knows next w calls (Tell at count) is by may = is
server_knows next w calls (Begin at new) is by may =
    begun_as w.active w.segments at new (subst (IsAs w.active w.segments) may is)
server_knows next w calls SyncNames is by may = ready_as w.active w.segments (segment_known calls) is
server_knows next w calls (GoOn at new) is by may = tt
server_knows next w calls (Fold found tables) is by may = absurd by
server_knows next w calls (SyncTables n) is by may = absurd by
server_knows next w calls (NameTables n) is by may = absurd by
server_knows next w calls (SyncName n) is by may = absurd by
server_knows next w calls (DropTables n newer) is by may = absurd by
server_knows next w calls (DropSegment n newer) is by may = absurd by
server_knows next w calls Stop is by may = tt
server_knows next w calls (Crash left) is by may = absurd by
server_knows next w calls (Start found) is by may = tt

-- no tables of a number that is free have their name
free-none : {T : Type 0} (tables : ℕ → Place (Written T)) (written : ℕ → Option (Written T)) (known : TablesKnown) (n : ℕ)
    → AreAs tables written known → AreFree known n → (tables n).now ≡ None
free-none tables written Unknown n are free = absurd free
free-none tables written NoTables n are free = absurd are
free-none tables written (Newest m) n are free = are n free
free-none tables written (Unnamed m) n are free = absurd free
free-none tables written (OnDisk m) n are free = absurd free
free-none tables written (Named m) n are free = absurd free
free-none tables written (Sure m) n are free = absurd free

-- the newer tables stay, where others are dropped
dropped_as : {T : Type 0} (tables : ℕ → Place (Written T)) (written : ℕ → Option (Written T)) (n newer : ℕ) → n < newer
    → AreAs tables written (Sure newer) → AreAs (changed_at n (renamed None) tables) written (Sure newer)
dropped_as tables written n newer less are =
    (are.0, changed-other n (renamed None) tables newer (λ e. omega (arith, e)) ∙ are.1)

-- what a checkpoint knows behind its own step is so
checkpoint_knows : {T C : Type 0} (next : T → C → T) (w : World T C) (calls : List StoreCall) (step : Step T C)
    → AreAs w.tables w.written (tables_known calls) → IsBy Checkpoint step → MayMake next w calls step
    → AreAs (after w step).tables (after w step).written (tables_known (calls_after calls step))
checkpoint_knows next w calls (Commit x) are by may = absurd by
checkpoint_knows next w calls (Append at count) are by may = absurd by
checkpoint_knows next w calls (Sync at) are by may = absurd by
checkpoint_knows next w calls (Tell at count) are by may = absurd by
checkpoint_knows next w calls (Begin at new) are by may = absurd by
checkpoint_knows next w calls SyncNames are by may = are
checkpoint_knows next w calls (GoOn at new) are by may = absurd by
checkpoint_knows {T} next w calls (Fold found tables) are by may = (
  free-none w.tables w.written (tables_known calls) (end_of found.after found.closed) are may.0,
  (
    record { tables = tables; synced = false },
    changed-same (end_of found.after found.closed)
        (λ (_ : Option (Written T)). Some (record { tables = tables; synced = false })) w.written
        (end_of found.after found.closed) refl,
  ),
)
checkpoint_knows {T} next w calls (SyncTables n) are by may =
    let so = subst (AreAs w.tables w.written) may are in (
      so.0,
      (
        so.1.0.tables,
        changed-same n (option_map (λ (f : Written T). whole f.tables)) w.written n refl
            ∙ ap (option_map (λ (f : Written T). whole f.tables)) so.1.1,
      ),
    )
checkpoint_knows {T} next w calls (NameTables n) are by may =
    let so = subst (AreAs w.tables w.written) may.0 are in (
      so.1.0,
      ap (λ (p : Place (Written T)). p.now) (changed-same n (renamed (w.written n)) w.tables n refl) ∙ so.1.1,
    )
checkpoint_knows {T} next w calls (SyncName n) are by may =
    let so = subst (AreAs w.tables w.written) may are in (
      so.0,
      changed-same n (λ (p : Place (Written T)). sure p.now) w.tables n refl ∙ ap sure so.1,
    )
checkpoint_knows next w calls (DropTables n newer) are by may =
    subst (AreAs (changed_at n (renamed None) w.tables) w.written) (sym may.1)
    (dropped_as w.tables w.written n newer may.0 (subst (AreAs w.tables w.written) may.1 are))
checkpoint_knows next w calls (DropSegment n newer) are by may = are
checkpoint_knows next w calls Stop are by may = absurd by
checkpoint_knows next w calls (Crash left) are by may = absurd by
checkpoint_knows next w calls (Start found) are by may = absurd by

-- tables that are there are whole
whole-there : {T C : Type 0} (next : T → C → T) (w : World T C) → Kept next 0 w → (n : ℕ) (tables : T)
    → (reads w).tables n ≡ Some tables → (is : T) × ((w.tables n).now ≡ Some (whole is))
whole-there {T} {C} next w k n tables reads_as =
    by (w.tables n).now refl (k.old.tables n (w.tables n).now (inl refl))
  where
    by : (now : Option (Written T)) → (w.tables n).now ≡ now
        → IfSome now (AreOldTables next w.first w.log (last_at k.chained) n) → (is : T) × ((w.tables n).now ≡ Some (whole is))
    by None e h = absurd (let none = ap (option_map (λ (f : Written T). f.tables)) e in cc)
    by (Some f) e h = (f.tables, e ∙ ap (λ (g : Written T). Some g) (whole-again h.1))
      where
        whole-again : {value : T} → f ≡ whole value → f ≡ whole f.tables
        whole-again {value} same = same ∙ ap (λ (g : Written T). whole g.tables) (sym same)

none-read-none : {T : Type 0} (now : Option (Written T)) → option_map (λ (f : Written T). f.tables) now ≡ None → now ≡ None
none-read-none None e = refl
none-read-none (Some f) e = absurd cc

-- what is found is known
found_knows : {T C : Type 0} (next : T → C → T) (w : World T C) → Kept next 0 w → (calls : List StoreCall)
    (is : StoreCall) → AreAs w.tables w.written (tables_known calls) → IsSo w Checkpoint is
    → AreAs w.tables w.written (tables_known (is ∷ calls))
found_knows next w k calls (call.FindNewest n) are so = λ m far. none-read-none (w.tables m).now (so.1.none_newer m far)
found_knows next w k calls (call.FindTables n) are so = whole-there next w k n so.0 so.1
found_knows next w k calls (call.FindSegment n) are so = are
found_knows next w k calls call.FindNothing are so = absurd so
found_knows next w k calls (call.EndSegment at n) are so = absurd so
found_knows next w k calls (call.BeginSegment at n) are so = absurd so
found_knows next w k calls call.SyncNames are so = absurd so
found_knows next w k calls (call.GoOn at n) are so = absurd so
found_knows next w k calls (call.WriteTables n) are so = absurd so
found_knows next w k calls (call.SyncTables n) are so = absurd so
found_knows next w k calls (call.NameTables n) are so = absurd so
found_knows next w k calls (call.SyncName n) are so = absurd so
found_knows next w k calls (call.DropTables n newer) are so = absurd so
found_knows next w k calls (call.DropSegment n newer) are so = absurd so
found_knows next w k calls call.Fail are so = absurd so

ended_knows : {T C : Type 0} (w : World T C) (calls : List StoreCall) (is : StoreCall) → IsSo w Server is
    → IsAs w.active w.segments (segment_known (is ∷ calls))
ended_knows w calls (call.EndSegment at n) so = (so.0, (so.1.0, so.1.1, so.2))
ended_knows w calls call.FindNothing so = absurd so
ended_knows w calls (call.FindNewest n) so = absurd so
ended_knows w calls (call.FindTables n) so = absurd so
ended_knows w calls (call.FindSegment n) so = absurd so
ended_knows w calls (call.BeginSegment at n) so = absurd so
ended_knows w calls call.SyncNames so = absurd so
ended_knows w calls (call.GoOn at n) so = absurd so
ended_knows w calls (call.WriteTables n) so = absurd so
ended_knows w calls (call.SyncTables n) so = absurd so
ended_knows w calls (call.NameTables n) so = absurd so
ended_knows w calls (call.SyncName n) so = absurd so
ended_knows w calls (call.DropTables n newer) so = absurd so
ended_knows w calls (call.DropSegment n newer) so = absurd so
ended_knows w calls call.Fail so = absurd so

-- each event leaves what is known as it is
are_run : {T C : Type 0} (next : T → C → T) (w : World T C) (calls : Calls) (events : List (Event T C)) → Kept next 0 w
    → Holds w calls → MayHappen next w calls events → IsRun next w (steps_of events)
are_run next w calls [] k h may = tt
are_run next w calls (Makes Server step ∷ events) k h may =
    let allowed = server_may next w calls.server step h.segment may.0 may.1 in (
      allowed,
      are_run next (after w step) (with_calls calls Server (calls_after calls.server step)) events
          (step_keeps next 0 w k step allowed) (record {
            tables = server_leaves w step (tables_known calls.checkpoint) may.0 h.tables;
            segment = server_knows next w calls.server step h.segment may.0 may.1;
          }) may.2,
    )
are_run next w calls (Makes Checkpoint step ∷ events) k h may =
    let allowed = checkpoint_may next w calls.checkpoint step h.tables may.0 may.1 in (
      allowed,
      are_run next (after w step) (with_calls calls Checkpoint (calls_after calls.checkpoint step)) events
          (step_keeps next 0 w k step allowed) (record {
            tables = checkpoint_knows next w calls.checkpoint step h.tables may.0 may.1;
            segment = checkpoint_leaves next w k step (segment_known calls.server) may.0 allowed h.segment;
          }) may.2,
    )
are_run next w calls (Fails Server (Some step) ∷ events) k h may =
    let allowed = server_may next w calls.server step h.segment may.0 may.1 in (
      allowed,
      are_run next (after w step) (with_calls calls Server (call.Fail ∷ calls.server)) events
          (step_keeps next 0 w k step allowed) (record {
            tables = server_leaves w step (tables_known calls.checkpoint) may.0 h.tables;
            segment = tt;
          }) may.2,
    )
are_run next w calls (Fails Checkpoint (Some step) ∷ events) k h may =
    let allowed = checkpoint_may next w calls.checkpoint step h.tables may.0 may.1 in (
      allowed,
      are_run next (after w step) (with_calls calls Checkpoint (call.Fail ∷ calls.checkpoint)) events
          (step_keeps next 0 w k step allowed) (record {
            tables = tt;
            segment = checkpoint_leaves next w k step (segment_known calls.server) may.0 allowed h.segment;
          }) may.2,
    )
are_run next w calls (Fails Server None ∷ events) k h may =
    are_run next w (with_calls calls Server (call.Fail ∷ calls.server)) events k
    (record { tables = h.tables; segment = tt }) may
are_run next w calls (Fails Checkpoint None ∷ events) k h may =
    are_run next w (with_calls calls Checkpoint (call.Fail ∷ calls.checkpoint)) events k
    (record { tables = tt; segment = h.segment }) may
are_run next w calls (Finding Server is ∷ events) k h may =
    are_run next w (with_calls calls Server (is ∷ calls.server)) events k
    (record { tables = h.tables; segment = ended_knows w calls.server is may.0 }) may.1
are_run next w calls (Finding Checkpoint is ∷ events) k h may =
    are_run next w (with_calls calls Checkpoint (is ∷ calls.checkpoint)) events k
    (record { tables = found_knows next w k calls.checkpoint is h.tables may.0; segment = h.segment }) may.1
are_run next w calls (Begins Server ∷ events) k h may =
    are_run next w (with_calls calls Server []) events k (record { tables = h.tables; segment = tt }) may
are_run next w calls (Begins Checkpoint ∷ events) k h may =
    are_run next w (with_calls calls Checkpoint []) events k (record { tables = tt; segment = h.segment }) may
are_run next w calls (Crashes left ∷ events) k h may = (
  may.0,
  are_run next (after w (Crash left)) no_calls events (step_keeps next 0 w k (Crash left) may.0)
      (record { tables = tt; segment = tt }) may.1,
)

pub calls_are_a_run : {T C : Type 0} (next : T → C → T) → CallsAreARun next
calls_are_a_run {T} {C} next first events may =
    are_run next (new_world first) no_calls events (new_keeps next first) (record { tables = tt; segment = tt }) may

pub calls_keep_what_was_told : {T C : Type 0} (next : T → C → T) → CallsKeepWhatWasTold next
calls_keep_what_was_told next first events may left is_left =
    nothing_told_is_lost next first (steps_of events) (calls_are_a_run next first events may) left is_left

-- a server that runs may commit
may-commit : (at : ℕ) → IsSome (Some at)
may-commit at = search rules

first-full : IsFull 0 1 (settled {C = ℕ} (7 ∷ []))
first-full = record { some = omega arith; synced = refl; next_is = refl }

-- the rules let a server and a checkpoint do all that they are for
pub worked_calls : WorkedCalls
worked_calls = ((tt, (refl, first-found), (tt, may-commit 0, (tt, (settled [], (refl, refl), omega arith), (tt, refl, (tt, (settled (7 ∷ []), (refl, refl), omega arith), ((settled (7 ∷ []), (refl, refl), first-full), (tt, refl, (tt, tt, (tt, refl, (tt, may-commit 1, (tt, (empty, (refl, refl), omega arith), (tt, refl, (([], record { are = refl; none_newer = none-then }), ((8 ∷ [], refl), (tt, (omega arith, fold-allowed), (tt, refl, (tt, (refl, refl), (tt, refl, (tt, (omega arith, refl), (tt, (omega arith, refl), (tt, may-commit 1, (tt, (settled (8 ∷ []), (refl, refl), omega arith), (tt, tt, tt))))))))))))))))))))))), refl)
