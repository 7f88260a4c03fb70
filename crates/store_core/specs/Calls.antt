-- Which calls on a store may be made after others. Lists of calls have the newest first.
use Rattle.std.specs.Prelude.{◌≡◌, ◌<◌, ℕ, List, [], ◌∷◌}
use Rattle.store_core.specs.declared.calls.StoreCall.{StoreCall}
use Rattle.store_core.specs.declared.calls.StoreCall.TheVariants as call

-- what whoever has made calls knows of the tables of a store
pub data TablesKnown : Type 0 where
  Unknown : TablesKnown
  -- there are none
  NoTables : TablesKnown
  -- the newest whole ones are these
  Newest : ℕ → TablesKnown
  -- these are written, and have no name
  Unnamed : ℕ → TablesKnown
  -- they are on the disk, too
  OnDisk : ℕ → TablesKnown
  -- these are whole and have their name, which a crash may take back
  Named : ℕ → TablesKnown
  -- these are there whatever crashes
  Sure : ℕ → TablesKnown

-- after calls: of a call that failed nobody knows whether it was made
abbrev pub tables_known : List StoreCall → TablesKnown
tables_known [] = Unknown
tables_known (call.FindNothing ∷ calls) = NoTables
tables_known (call.FindNewest n ∷ calls) = Newest n
tables_known (call.FindTables n ∷ calls) = Named n
tables_known (call.WriteTables n ∷ calls) = Unnamed n
tables_known (call.SyncTables n ∷ calls) = OnDisk n
tables_known (call.NameTables n ∷ calls) = Named n
tables_known (call.SyncName n ∷ calls) = Sure n
tables_known (call.Fail ∷ calls) = Unknown
tables_known (_ ∷ calls) = tables_known calls

-- and of the segments
pub data SegmentKnown : Type 0 where
  Nothing : SegmentKnown
  -- this one is there
  There : ℕ → SegmentKnown
  -- the last one, of the first number, ends behind so many commits, and all of it is on the disk
  Ended : ℕ → ℕ → SegmentKnown
  -- and the next one is made, whose name a crash may take back
  Begun : ℕ → ℕ → SegmentKnown
  -- and is there whatever crashes
  Ready : ℕ → ℕ → SegmentKnown

abbrev pub names_synced : SegmentKnown → SegmentKnown
names_synced (Begun at n) = Ready at n
names_synced known = known

-- after calls; the first segment of a new store stands behind no commits
abbrev pub segment_known : List StoreCall → SegmentKnown
segment_known [] = Nothing
segment_known (call.FindNothing ∷ calls) = Ended 0 0
segment_known (call.FindSegment n ∷ calls) = There n
segment_known (call.EndSegment at n ∷ calls) = Ended at n
segment_known (call.BeginSegment at n ∷ calls) = Begun at n
segment_known (call.SyncNames ∷ calls) = names_synced (segment_known calls)
segment_known (call.GoOn at n ∷ calls) = Nothing
segment_known (call.DropSegment n newer ∷ calls) = Nothing
segment_known (call.Fail ∷ calls) = Nothing
segment_known (_ ∷ calls) = segment_known calls

-- no tables of this number have their name
abbrev pub AreFree : TablesKnown → ℕ → Type 0
AreFree NoTables n = n ≡ 0
AreFree (Newest m) n = m < n
AreFree _ n = ⊥

-- this segment is there
abbrev pub HasSegment : SegmentKnown → ℕ → Type 0
HasSegment (There m) n = m ≡ n
HasSegment (Ready at m) n = m ≡ n
HasSegment _ n = ⊥

-- whether a call may be made after these
abbrev pub MayCall : List StoreCall → StoreCall → Type 0
MayCall calls (call.BeginSegment at n) = segment_known calls ≡ Ended at n
MayCall calls (call.GoOn at n) = segment_known calls ≡ Ready at n
MayCall calls (call.WriteTables n) = AreFree (tables_known calls) n
MayCall calls (call.SyncTables n) = tables_known calls ≡ Unnamed n
MayCall calls (call.NameTables n) = (tables_known calls ≡ OnDisk n) × HasSegment (segment_known calls) n
MayCall calls (call.SyncName n) = tables_known calls ≡ Named n
MayCall calls (call.DropTables n newer) = (n < newer) × (tables_known calls ≡ Sure newer)
MayCall calls (call.DropSegment n newer) = (n < newer) × (tables_known calls ≡ Sure newer)
MayCall calls _ = Unit {0}
