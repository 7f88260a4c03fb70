-- A store as a machine: what there is, and what each step does.
use Rattle.std.specs.Prelude.{◌≡◌, ◌<◌, ◌≤◌, ℕ, zero, suc, ◌+◌, ◌==◌, false, if◌then◌else◌, max, List, [], ◌∷◌, ◌++◌, length}
use Rattle.std.specs.Prelude.{take, drop, Option, Some, None, IsSome}
use Rattle.std.specs.Option.{option_map}
use Rattle.store_core.specs.Places.{Place, sure, renamed, MayStand, Segment, empty, settled, SegmentLeft, Written, whole}
use Rattle.store_core.specs.Places.{TablesLeft}
use Rattle.store_core.specs.Found.{Store, Found, joined, end_of, AreNewest, Finds, tables_after}

-- the first tables; the commits that were made, in order; the most of them that anyone was told of; the segment that the
-- server appends to, while one runs; tables that a checkpoint writes, under other names; and what stands under the names
pub record World (T C : Type 0) : Type 0 where
  pub first : T
  pub log : List C
  pub told : ℕ
  pub active : Option ℕ
  pub written : ℕ → Option (Written T)
  pub tables : ℕ → Place (Written T)
  pub segments : ℕ → Place (Segment C)

-- where two numbers stand, the first is that of the segment that the server appends to
pub data Step (T C : Type 0) : Type 0 where
  -- the server makes a commit
  Commit : C → Step T C
  -- it writes into the segment, up to the commit of this number; where it fails, fewer
  Append : ℕ → ℕ → Step T C
  Sync : ℕ → Step T C
  -- it tells someone that so many commits were made
  Tell : ℕ → ℕ → Step T C
  -- it makes a new segment
  Begin : ℕ → ℕ → Step T C
  -- whoever does, the folder: after it a crash changes no name of a segment
  SyncNames : Step T C
  -- it appends to the new segment from now on
  GoOn : ℕ → ℕ → Step T C
  -- a checkpoint writes the tables after these tables and segments
  Fold : Found T C → T → Step T C
  SyncTables : ℕ → Step T C
  NameTables : ℕ → Step T C
  -- the folder of these tables: after it a crash does not change whether they have their name
  SyncName : ℕ → Step T C
  -- it drops what no start needs, since newer tables are there
  DropTables : ℕ → ℕ → Step T C
  DropSegment : ℕ → ℕ → Step T C
  -- the server ends, or is killed
  Stop : Step T C
  -- the machine stops, and this is left
  Crash : Store T C → Step T C
  -- a server starts with what it finds
  Start : Found T C → Step T C

-- a new store: the first tables, and a segment for the commits behind them
abbrev pub first_tables : {T : Type 0} → T → ℕ → Place (Written T)
first_tables first zero = sure (Some (whole first))
first_tables first (suc n) = sure None

abbrev pub first_segment : {C : Type 0} → ℕ → Place (Segment C)
first_segment zero = sure (Some empty)
first_segment (suc n) = sure None

abbrev pub new_world : {T C : Type 0} → T → World T C
new_world first = record {
  first = first;
  log = [];
  told = 0;
  active = None;
  written = λ _. None;
  tables = first_tables first;
  segments = first_segment;
}

-- the store as it reads now
abbrev pub reads : {T C : Type 0} → World T C → Store T C
reads w = record {
  tables = λ n. option_map (λ file. file.tables) (w.tables n).now;
  segments = λ n. option_map (λ segment. segment.commits) (w.segments n).now;
}

-- a crash may leave this store: under each name by itself one of the files that may stand there, and of that what is left
pub record MayLeave {T C : Type 0} (w : World T C) (left : Store T C) : Type 0 where
  pub tables : (n : ℕ) → (file : Option (Written T)) × MayStand (w.tables n) file × TablesLeft file (left.tables n)
  pub segments : (n : ℕ) → (file : Option (Segment C)) × MayStand (w.segments n) file
      × SegmentLeft file (left.segments n)

-- all that is there is on the disk, and its names are
abbrev pub on_disk : {T C : Type 0} → World T C → Store T C → World T C
on_disk w store = record w {
  tables = λ n. sure (option_map whole (store.tables n));
  segments = λ n. sure (option_map settled (store.segments n));
}

-- that of one number is changed
abbrev pub changed_at : {A : Type 0} → ℕ → (A → A) → (ℕ → A) → ℕ → A
changed_at number f all = λ n. if n == number then f (all n) else all n

-- the file that stands there is changed
abbrev pub changed : {A : Type 0} → (A → A) → Place A → Place A
changed f place = record { now = option_map f place.now; before = place.before }

-- the segment of this number, to which the server appends
abbrev pub IsActive : {T C : Type 0} → World T C → ℕ → Segment C → Type 0
IsActive w at segment = (w.active ≡ Some at) × ((w.segments at).now ≡ Some segment)

-- all of a segment that has commits is on the disk, and the next one begins behind so many commits
pub record IsFull {C : Type 0} (at next : ℕ) (segment : Segment C) : Type 0 where
  pub some : 0 < length segment.commits
  pub synced : segment.synced ≡ length segment.commits
  pub next_is : next ≡ at + length segment.commits

-- segments follow one another, each with commits, and behind them stands one that has commits too: they are closed
abbrev pub AreClosed : {C : Type 0} → (ℕ → Option (List C)) → ℕ → List (List C) → List C → Type 0
AreClosed segments at [] later = (segments at ≡ Some later) × (0 < length later)
AreClosed segments at (part ∷ parts) later =
    (segments at ≡ Some part) × (0 < length part) × AreClosed segments (at + length part) parts later

abbrev pub HasNewer : {T C : Type 0} → World T C → ℕ → ℕ → Type 0
HasNewer {T} w n newer = (n < newer) × ((tables : T) × (w.tables newer ≡ sure (Some (whole tables))))

-- whether a step may be made
abbrev pub IsAllowed : {T C : Type 0} → (T → C → T) → World T C → Step T C → Type 0
IsAllowed {T} {C} next w (Commit commit) = IsSome w.active
IsAllowed {T} {C} next w (Append at count) =
    (segment : Segment C) × IsActive w at segment × (at + length segment.commits ≤ count)
IsAllowed {T} {C} next w (Sync at) = w.active ≡ Some at
IsAllowed {T} {C} next w (Tell at count) =
    (segment : Segment C) × IsActive w at segment × (count ≤ at + segment.synced)
IsAllowed {T} {C} next w (Begin at new) = (segment : Segment C) × IsActive w at segment × IsFull at new segment
IsAllowed {T} {C} next w SyncNames = Unit {0}
IsAllowed {T} {C} next w (GoOn at new) =
    (segment : Segment C) × IsActive w at segment × IsFull at new segment × (w.segments new ≡ sure (Some empty))
IsAllowed {T} {C} next w (Fold found tables) =
    AreNewest (reads w).tables found.after found.tables
    × AreClosed (reads w).segments found.after found.closed found.last
    × (tables ≡ tables_after next found.tables (joined found.closed []))
IsAllowed {T} {C} next w (SyncTables n) = Unit {0}
IsAllowed {T} {C} next w (NameTables n) =
    (tables : T) × (w.written n ≡ Some (whole tables)) × ((w.tables n).now ≡ None)
IsAllowed {T} {C} next w (SyncName n) = Unit {0}
IsAllowed {T} {C} next w (DropTables n newer) = HasNewer w n newer
IsAllowed {T} {C} next w (DropSegment n newer) = HasNewer w n newer
IsAllowed {T} {C} next w Stop = Unit {0}
IsAllowed {T} {C} next w (Crash left) = MayLeave w left
IsAllowed {T} {C} next w (Start found) = (w.active ≡ None) × Finds (reads w) found

-- what a step leaves of a world
abbrev pub after : {T C : Type 0} → World T C → Step T C → World T C
after {T} {C} w (Commit commit) = record w { log = w.log ++ commit ∷ [] }
after {T} {C} w (Append at count) = record w {
  segments = changed_at at
      (changed (λ (segment : Segment C). record segment { commits = drop at (take count w.log) })) w.segments;
}
after {T} {C} w (Sync at) = record w {
  segments = changed_at at (changed (λ (segment : Segment C). settled segment.commits)) w.segments;
}
after {T} {C} w (Tell at count) = record w { told = max w.told count }
after {T} {C} w (Begin at new) = record w { segments = changed_at new (renamed (Some empty)) w.segments }
after {T} {C} w SyncNames = record w { segments = λ n. sure (w.segments n).now }
after {T} {C} w (GoOn at new) = record w { active = Some new }
after {T} {C} w (Fold found tables) = record w {
  written = changed_at (end_of found.after found.closed) (λ _. Some (record { tables = tables; synced = false })) w.written;
}
after {T} {C} w (SyncTables n) = record w { written = changed_at n (option_map (λ file. whole file.tables)) w.written }
after {T} {C} w (NameTables n) = record w { tables = changed_at n (renamed (w.written n)) w.tables }
after {T} {C} w (SyncName n) = record w { tables = changed_at n (λ place. sure place.now) w.tables }
after {T} {C} w (DropTables n newer) = record w { tables = changed_at n (renamed None) w.tables }
after {T} {C} w (DropSegment n newer) = record w { segments = changed_at n (renamed None) w.segments }
after {T} {C} w Stop = record w { active = None }
after {T} {C} w (Crash left) = record (on_disk w left) { active = None; written = λ _. None }
-- each segment that is opened is synced, and so are the names of segments; what was made and is not found was told to
-- nobody
after {T} {C} w (Start found) = record w {
  segments = λ n. sure (option_map settled ((reads w).segments n));
  active = Some (end_of found.after found.closed);
  log = take (end_of found.after found.closed + length found.last) w.log;
}
