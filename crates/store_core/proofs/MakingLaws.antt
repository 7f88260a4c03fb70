-- A new store is there whole, or not at all.
use Rattle.std.proofs.Common.{◌≡◌, ◌⊎◌, ℕ, ◌<◌, false, List, [], ◌∷◌, refl, sym, ap, ◌∙◌, inl, inr, arith}
use Rattle.std.proofs.Common.{Option, Some, None, IfSome, subst, option_map}
use Rattle.std.proofs.lemmas.Bool.{cases_eq}
use Rattle.store_core.specs.Places.{Place, sure, renamed, MayStand, Segment, empty, SegmentLeft, Written, whole, TablesLeft}
use Rattle.store_core.specs.Found.{Store, Finds}
use Rattle.store_core.specs.World.{World, MayLeave, changed_at}
use Rattle.store_core.specs.Calls.{TablesKnown, Unknown, NoTables, Newest, Unnamed, OnDisk, Named, Sure, tables_known, AreFree}
use Rattle.store_core.specs.Calls.{SegmentKnown, Nothing, There, Ended, Begun, Ready, segment_known, names_synced, HasSegment}
use Rattle.store_core.specs.Making.{nothing, made, MakeAStore, new_found, MakesNoneOrAll, MadeStoreStays}
use Rattle.store_core.specs.declared.calls.StoreCall.{StoreCall}
use Rattle.store_core.specs.declared.calls.StoreCall.TheVariants as call
use Rattle.store_core.proofs.ListLaws.{no_some}
use Rattle.store_core.proofs.ChainLaws.{changed-same, changed-other, stands-sure, left-settled}

-- nothing stands under another name than the first
abbrev OnlyFirst : {A : Type 0} → (ℕ → Place A) → Type 0
OnlyFirst places = (n : ℕ) → 0 < n → places n ≡ sure None

-- what is known of the tables of a new store is so
abbrev AreAs : {T C : Type 0} → World T C → TablesKnown → Type 0
AreAs w Unknown = ⊥
AreAs w NoTables = w.tables 0 ≡ sure None
AreAs w (Newest n) = ⊥
AreAs {T} w (Unnamed n) =
    (n ≡ 0) × (w.tables 0 ≡ sure None) × (w.written 0 ≡ Some (record { tables = w.first; synced = false }))
AreAs w (OnDisk n) = (n ≡ 0) × (w.tables 0 ≡ sure None) × (w.written 0 ≡ Some (whole w.first))
AreAs w (Named n) =
    (n ≡ 0) × (w.tables 0 ≡ renamed (Some (whole w.first)) (sure None)) × (w.segments 0 ≡ sure (Some empty))
AreAs w (Sure n) = (n ≡ 0) × (w.tables 0 ≡ sure (Some (whole w.first))) × (w.segments 0 ≡ sure (Some empty))

-- and of its segment
abbrev IsAs : {T C : Type 0} → World T C → SegmentKnown → Type 0
IsAs w Nothing = ⊥
IsAs w (There n) = ⊥
IsAs w (Ended at n) = (n ≡ 0) × (w.segments 0 ≡ sure None)
IsAs w (Begun at n) = (n ≡ 0) × (w.segments 0 ≡ renamed (Some empty) (sure None))
IsAs w (Ready at n) = (n ≡ 0) × (w.segments 0 ≡ sure (Some empty))

record Holds {T C : Type 0} (first : T) (w : World T C) (tables : TablesKnown) (segment : SegmentKnown) : Type 0 where
  is_first : w.first ≡ first
  are : AreAs w tables
  is : IsAs w segment
  only_tables : OnlyFirst w.tables
  only_segments : OnlyFirst w.segments

-- another number than the first is left
only-changed : {A : Type 0} (places : ℕ → Place A) (n : ℕ) (f : Place A → Place A) → n ≡ 0 → OnlyFirst places
    → OnlyFirst (changed_at n f places)
only-changed places n f e only m far = changed-other n f places m (λ same. omega (arith, e, same)) ∙ only m far

first-changed : {A : Type 0} (all : ℕ → A) (n : ℕ) (f : A → A) → n ≡ 0 → changed_at n f all 0 ≡ f (all 0)
first-changed all n f e = changed-same n f all 0 (sym e)

only-synced : {A : Type 0} (places : ℕ → Place A) → OnlyFirst places → OnlyFirst (λ n. sure (places n).now)
only-synced {A} places only m far = ap (λ (p : Place A). sure p.now) (only m far)

no-place : {A : Type 0} (place : Place A) (file : A) → place ≡ sure None → place ≡ sure (Some file) → ⊥
no-place {A} place file none some = no_some place.now file (ap (λ (p : Place A). p.now) none) (ap (λ (p : Place A). p.now) some)

-- the tables that are free are the first
free-first : {T C : Type 0} (w : World T C) (known : TablesKnown) (n : ℕ) → AreAs w known → AreFree known n
    → (n ≡ 0) × (w.tables 0 ≡ sure None)
free-first w Unknown n are free = absurd free
free-first w NoTables n are free = (free, are)
free-first w (Newest m) n are free = absurd are
free-first w (Unnamed m) n are free = absurd free
free-first w (OnDisk m) n are free = absurd free
free-first w (Named m) n are free = absurd free
free-first w (Sure m) n are free = absurd free

-- the segment is there when the tables get their name
has-first : {T C : Type 0} (w : World T C) (known : SegmentKnown) (n : ℕ) → IsAs w known → HasSegment known n
    → w.segments 0 ≡ sure (Some empty)
has-first w Nothing n is has = absurd is
has-first w (There m) n is has = absurd is
has-first w (Ended at m) n is has = absurd has
has-first w (Begun at m) n is has = absurd has
has-first w (Ready at m) n is has = is.1

-- what stands under a name of a segment is no matter of tables that have none
begun-as : {T C : Type 0} (w : World T C) (known : TablesKnown) (f : Place (Segment C) → Place (Segment C)) (n : ℕ)
    → w.segments 0 ≡ sure None → AreAs w known → AreAs (record w { segments = changed_at n f w.segments }) known
begun-as w Unknown f n none are = absurd are
begun-as w NoTables f n none are = are
begun-as w (Newest m) f n none are = absurd are
begun-as w (Unnamed m) f n none are = are
begun-as w (OnDisk m) f n none are = are
begun-as w (Named m) f n none are = absurd (no-place (w.segments 0) empty none are.2)
begun-as w (Sure m) f n none are = absurd (no-place (w.segments 0) empty none are.2)

synced-as : {T C : Type 0} (w : World T C) (known : TablesKnown) → AreAs w known
    → AreAs (record w { segments = λ n. sure (w.segments n).now }) known
synced-as w Unknown are = absurd are
synced-as w NoTables are = are
synced-as w (Newest m) are = absurd are
synced-as w (Unnamed m) are = are
synced-as w (OnDisk m) are = are
synced-as {T} {C} w (Named m) are = (are.0, are.1, ap (λ (p : Place (Segment C)). sure p.now) are.2)
synced-as {T} {C} w (Sure m) are = (are.0, are.1, ap (λ (p : Place (Segment C)). sure p.now) are.2)

ready-as : {T C : Type 0} (w : World T C) (known : SegmentKnown) → IsAs w known
    → IsAs (record w { segments = λ n. sure (w.segments n).now }) (names_synced known)
ready-as w Nothing is = absurd is
ready-as w (There n) is = absurd is
ready-as {T} {C} w (Ended at n) is = (is.0, ap (λ (p : Place (Segment C)). sure p.now) is.1)
ready-as {T} {C} w (Begun at n) is = (is.0, ap (λ (p : Place (Segment C)). sure p.now) is.1)
ready-as {T} {C} w (Ready at n) is = (is.0, ap (λ (p : Place (Segment C)). sure p.now) is.1)

-- each call by the rules leaves what is known as it is
holds : {T C : Type 0} (first : T) (calls : List StoreCall) → MakeAStore calls
    → Holds first (made (nothing {T = T} {C = C} first) calls) (tables_known calls) (segment_known calls)
holds first [] may = absurd may
holds {T} {C} first (call.FindNothing ∷ calls) may =
    subst (λ (cs : List StoreCall). Holds first (made (nothing {T = T} {C = C} first) cs) NoTables (Ended 0 0)) (sym may)
    record { is_first = refl; are = refl; is = (refl, refl); only_tables = λ n far. refl; only_segments = λ n far. refl }
holds {T} {C} first (call.WriteTables n ∷ calls) may =
    let h = holds {T = T} {C = C} first calls may.2 in
    let free = free-first (made (nothing first) calls) (tables_known calls) n h.are may.1 in
    record {
      is_first = h.is_first;
      are = (
        free.0,
        free.1,
        first-changed (made (nothing {T = T} {C = C} first) calls).written n
            (λ (_ : Option (Written T)). Some (record { tables = (made (nothing {T = T} {C = C} first) calls).first; synced = false }))
            free.0,
      );
      is = h.is;
      only_tables = h.only_tables;
      only_segments = h.only_segments;
    }
holds {T} {C} first (call.SyncTables n ∷ calls) may =
    let h = holds {T = T} {C = C} first calls may.2 in
    let so = subst (AreAs (made (nothing {T = T} {C = C} first) calls)) may.1 h.are in
    record {
      is_first = h.is_first;
      are = (
        so.0,
        so.1,
        first-changed (made (nothing {T = T} {C = C} first) calls).written n
            (option_map (λ (f : Written T). whole f.tables)) so.0
            ∙ ap (option_map (λ (f : Written T). whole f.tables)) so.2,
      );
      is = h.is;
      only_tables = h.only_tables;
      only_segments = h.only_segments;
    }
holds {T} {C} first (call.NameTables n ∷ calls) may =
    let h = holds {T = T} {C = C} first calls may.2 in
    let w : World T C = made (nothing first) calls in
    let so = subst (AreAs w) may.1.0 h.are in
    record {
      is_first = h.is_first;
      are = (so.0, named w n so.0 so.1 so.2, has-first w (segment_known calls) n h.is may.1.1);
      is = h.is;
      only_tables = only-changed w.tables n (renamed (w.written n)) so.0 h.only_tables;
      only_segments = h.only_segments;
    }
  where
    named : (w : World T C) (n : ℕ) → n ≡ 0 → w.tables 0 ≡ sure None → w.written 0 ≡ Some (whole w.first)
        → changed_at n (renamed (w.written n)) w.tables 0 ≡ renamed (Some (whole w.first)) (sure None)
    named w n e none is =
        first-changed w.tables n (renamed (w.written n)) e
        ∙ ap (λ (p : Place (Written T)). renamed (w.written n) p) none
        ∙ ap (λ (o : Option (Written T)). renamed o (sure None)) (ap w.written e ∙ is)
holds {T} {C} first (call.SyncName n ∷ calls) may =
    let h = holds {T = T} {C = C} first calls may.2 in
    let w : World T C = made (nothing first) calls in
    let so = subst (AreAs w) may.1 h.are in
    record {
      is_first = h.is_first;
      are = (
        so.0,
        first-changed w.tables n (λ (p : Place (Written T)). sure p.now) so.0
            ∙ ap (λ (p : Place (Written T)). sure p.now) so.1,
        so.2,
      );
      is = h.is;
      only_tables = only-changed w.tables n (λ (p : Place (Written T)). sure p.now) so.0 h.only_tables;
      only_segments = h.only_segments;
    }
holds {T} {C} first (call.BeginSegment at n ∷ calls) may =
    let h = holds {T = T} {C = C} first calls may.2 in
    let w : World T C = made (nothing first) calls in
    let so = subst (IsAs w) may.1 h.is in
    record {
      is_first = h.is_first;
      are = begun-as w (tables_known calls) (renamed (Some empty)) n so.1 h.are;
      is = (
        so.0,
        first-changed w.segments n (renamed (Some empty)) so.0
            ∙ ap (λ (p : Place (Segment C)). renamed (Some empty) p) so.1,
      );
      only_tables = h.only_tables;
      only_segments = only-changed w.segments n (renamed (Some empty)) so.0 h.only_segments;
    }
holds {T} {C} first (call.SyncNames ∷ calls) may =
    let h = holds {T = T} {C = C} first calls may.2 in
    let w : World T C = made (nothing first) calls in
    record {
      is_first = h.is_first;
      are = synced-as w (tables_known calls) h.are;
      is = ready-as w (segment_known calls) h.is;
      only_tables = h.only_tables;
      only_segments = only-synced w.segments h.only_segments;
    }
holds first (call.FindNewest n ∷ calls) may = absurd may.0
holds first (call.FindTables n ∷ calls) may = absurd may.0
holds first (call.FindSegment n ∷ calls) may = absurd may.0
holds first (call.EndSegment at n ∷ calls) may = absurd may.0
holds first (call.GoOn at n ∷ calls) may = absurd may.0
holds first (call.DropTables n newer ∷ calls) may = absurd may.0
holds first (call.DropSegment n newer ∷ calls) may = absurd may.0
holds first (call.Fail ∷ calls) may = absurd may.0

-- nothing is left of what never stood there
left-none : {T : Type 0} (place : Place (Written T)) (left : Option T) → place ≡ sure None
    → (file : Option (Written T)) × MayStand place file × TablesLeft file left → left ≡ None
left-none {T} place left e may =
    subst (λ (file : Option (Written T)). TablesLeft file left) (stands-sure place None may.0 e may.1) may.2

segment-none : {C : Type 0} (place : Place (Segment C)) (left : Option (List C)) → place ≡ sure None
    → (file : Option (Segment C)) × MayStand place file × SegmentLeft file left → left ≡ None
segment-none {C} place left e may =
    subst (λ (file : Option (Segment C)). SegmentLeft file left) (stands-sure place None may.0 e may.1) may.2

-- and what is on the disk is left whole
left-there : {T : Type 0} (file : Option (Written T)) (tables : T) (left : Option T) → file ≡ Some (whole tables)
    → TablesLeft file left → left ≡ Some tables
left-there {T} file tables left e may =
    let h : TablesLeft (Some (whole tables)) left = subst (λ (f : Option (Written T)). TablesLeft f left) e may in
    h.1 ∙ ap Some (h.2 refl)

-- a start finds the new store
found-new : {T C : Type 0} (first : T) (w : World T C) (left : Store T C) → MayLeave w left → left.tables 0 ≡ Some first
    → w.segments 0 ≡ sure (Some empty) → OnlyFirst w.tables → OnlyFirst w.segments → Finds left (new_found first)
found-new {T} {C} first w left may are is tables segments = record {
  newest = record { are = are; none_newer = λ n far. left-none (w.tables n) (left.tables n) (tables n far) (may.tables n) };
  chain = (left-settled (w.segments 0) [] (left.segments 0) is (may.segments 0), tt);
  no_gap = λ n far. inr (subst (λ (o : Option (List C)). IfSome o (λ commits. commits ≡ []))
      (sym (segment-none (w.segments n) (left.segments n) (segments n far) (may.segments n))) tt);
}

none-left : {T C : Type 0} (w : World T C) (left : Store T C) → MayLeave w left → left.tables 0 ≡ None
    → OnlyFirst w.tables → (n : ℕ) → left.tables n ≡ None
none-left w left may none tables n = by (cases_eq n 0)
  where
    by : (n ≡ 0) ⊎ (n ≡ 0 → ⊥) → left.tables n ≡ None
    by (inl e) = ap left.tables e ∙ none
    by (inr apart) =
        left-none (w.tables n) (left.tables n) (tables n (let h = apart in omega arith)) (may.tables n)

-- once the name is synced, the new store is left
sure-all : {T C : Type 0} (first : T) (w : World T C) (n : ℕ) (segment : SegmentKnown) → Holds first w (Sure n) segment
    → (left : Store T C) → MayLeave w left → Finds left (new_found first)
sure-all {T} first w n segment h left may =
    found-new first w left may
    (left-there (may.tables 0).0 first (left.tables 0)
    (stands-sure (w.tables 0) (Some (whole w.first)) (may.tables 0).0 h.are.1 (may.tables 0).1
    ∙ ap (λ (t : T). Some (whole t)) h.is_first) (may.tables 0).2)
    h.are.2 h.only_tables h.only_segments

-- what a crash leaves where so much is known
none-or-all : {T C : Type 0} (first : T) (w : World T C) (known : TablesKnown) (segment : SegmentKnown)
    → Holds first w known segment → (left : Store T C) → MayLeave w left
    → ((n : ℕ) → left.tables n ≡ None) ⊎ Finds left (new_found first)
none-or-all first w Unknown segment h left may = absurd h.are
none-or-all first w NoTables segment h left may =
    inl (none-left w left may (left-none (w.tables 0) (left.tables 0) h.are (may.tables 0)) h.only_tables)
none-or-all first w (Newest n) segment h left may = absurd h.are
none-or-all first w (Unnamed n) segment h left may =
    inl (none-left w left may (left-none (w.tables 0) (left.tables 0) h.are.1 (may.tables 0)) h.only_tables)
none-or-all first w (OnDisk n) segment h left may =
    inl (none-left w left may (left-none (w.tables 0) (left.tables 0) h.are.1 (may.tables 0)) h.only_tables)
none-or-all {T} first w (Named n) segment h left may =
    by (may.tables 0).0 (subst (λ (p : Place (Written T)). MayStand p (may.tables 0).0) h.are.1 (may.tables 0).1)
    (may.tables 0).2
  where
    by : (file : Option (Written T)) → MayStand (renamed (Some (whole w.first)) (sure None)) file
        → TablesLeft file (left.tables 0) → ((n : ℕ) → left.tables n ≡ None) ⊎ Finds left (new_found first)
    by file (inl there) is =
        inr (found-new first w left may (left-there file first (left.tables 0)
        (there ∙ ap (λ (t : T). Some (whole t)) h.is_first) is) h.are.2 h.only_tables h.only_segments)
    by file (inr (inl none)) is =
        inl (none-left w left may (subst (λ (f : Option (Written T)). TablesLeft f (left.tables 0)) none is) h.only_tables)
    by file (inr (inr never)) is = absurd never
none-or-all {T} first w (Sure n) segment h left may = inr (sure-all first w n segment h left may)

pub makes_none_or_all : {T C : Type 0} → MakesNoneOrAll T C
makes_none_or_all {T} {C} first calls may left is_left =
    none-or-all first (made (nothing {T = T} {C = C} first) calls) (tables_known calls) (segment_known calls)
    (holds {T = T} {C = C} first calls may) left is_left

pub made_store_stays : {T C : Type 0} → MadeStoreStays T C
made_store_stays {T} {C} first calls may known left is_left =
    let h = holds {T = T} {C = C} first calls may in
    sure-all first (made (nothing {T = T} {C = C} first) calls) 0 (segment_known calls)
    (subst (λ (k : TablesKnown). Holds first (made (nothing {T = T} {C = C} first) calls) k (segment_known calls)) known h)
    left is_left
