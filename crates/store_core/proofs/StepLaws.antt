-- Each step keeps what every world keeps.
use Rattle.std.proofs.Common.{◌≡◌, ◌⊎◌, ℕ, ◌+◌, ◌-◌, ◌<◌, ◌≤◌, max, List, [], ◌∷◌, ◌++◌, length, take, drop}
use Rattle.std.proofs.Common.{refl, sym, ap, ◌∙◌, inl, inr, arith, append_assoc, length-append, Option, Some, IfSome}
use Rattle.std.proofs.Common.{subst}
use Rattle.std.proofs.lemmas.List.{take-append-le}
use Rattle.std.proofs.Math.Seq.{take-append_seam, drop-append_seam}
use Rattle.store_core.specs.Places.{Place, sure, renamed, MayStand, Segment, empty, settled, Written, whole}
use Rattle.store_core.specs.Found.{joined, end_of, IsBegin, tables_after}
use Rattle.store_core.specs.World.{World, IsActive, IsFull, changed, changed_at}
use Rattle.store_core.proofs.ListLaws.{written-up, rest-of, joined-append, end-snoc, begin-before, end-begins}
use Rattle.store_core.proofs.ListLaws.{snoc-begins, if_some}
use Rattle.store_core.proofs.ChainLaws.{IsSureChain, changed-other, changed-each, renamed-each, stands-sure, sure-apart}
use Rattle.store_core.proofs.ChainLaws.{sure-last, sure-end, sure-snoc, sure-synced}
use Rattle.store_core.proofs.Keeping.{Kept, IsTablesAt, IsWrittenAt, log-length}
use Rattle.store_core.proofs.Keeping.{IsPart, NewerTables, OtherSegment, OldTables, OldSegment, IsOldSegment, AreOldTables, AreOldWritten, part-more, part-later, last_at, longer, log-at-end, front-length, active-is, segment-is, stable}

joined-snoc : {C : Type 0} (parts : List (List C)) (p xs : List C) → joined (parts ++ p ∷ []) xs ≡ joined parts (p ++ xs)
joined-snoc [] p xs = refl
joined-snoc (q ∷ qs) p xs = ap (λ l. q ++ l) (joined-snoc qs p xs)

-- other segments stand there, the last one and those before it as they were
pub with_segments : {T C : Type 0} (next : T → C → T) (d : ℕ) (w : World T C) (k : Kept next d w)
    (segments : ℕ → Place (Segment C)) → IsSureChain segments (length k.chained.front) k.chained.closed k.chained.last
    → ((n : ℕ) → OtherSegment (length k.chained.front) k.chained.closed n (segments n))
    → ((n : ℕ) → OldSegment w.log (last_at k.chained) n (segments n))
    → Kept next d (record w { segments = segments })
with_segments next d w k segments chain others old = record {
  chained = record {
    front = k.chained.front;
    closed = k.chained.closed;
    last = k.chained.last;
    rest = k.chained.rest;
    log = k.chained.log;
    synced = k.chained.synced;
    told = k.chained.told;
    durable = k.chained.durable;
    chain = chain;
    newer = k.chained.newer;
    others = others;
    written = k.chained.written;
    active = k.chained.active;
  };
  root = k.root;
  old = record { tables = k.old.tables; segments = old; written = k.old.written };
}

-- other tables stand there, those after the front as they were
unfoldable pub with_tables : {T C : Type 0} (next : T → C → T) (d : ℕ) (w : World T C) (k : Kept next d w)
    (tables : ℕ → Place (Written T))
    → tables (length k.chained.front) ≡ sure (Some (whole (tables_after next w.first k.chained.front)))
    → ((n : ℕ) → NewerTables next w.first w.log (length k.chained.front) k.chained.closed n (tables n))
    → ((n : ℕ) → OldTables next w.first w.log (last_at k.chained) n (tables n))
    → Kept next d (record w { tables = tables })
with_tables next d w k tables root newer old = record {
  chained = record {
    front = k.chained.front;
    closed = k.chained.closed;
    last = k.chained.last;
    rest = k.chained.rest;
    log = k.chained.log;
    synced = k.chained.synced;
    told = k.chained.told;
    durable = k.chained.durable;
    chain = k.chained.chain;
    newer = newer;
    others = k.chained.others;
    written = k.chained.written;
    active = k.chained.active;
  };
  root = root;
  old = record { tables = old; segments = k.old.segments; written = k.old.written };
}

-- a server makes a commit
pub commit_keeps : {T C : Type 0} (next : T → C → T) (d : ℕ) (w : World T C) → Kept next d w → (x : C)
    → Kept next d (record w { log = w.log ++ x ∷ [] })
commit_keeps {T} {C} next d w k x = record {
  chained = record {
    front = k.chained.front;
    closed = k.chained.closed;
    last = k.chained.last;
    rest = k.chained.rest ++ x ∷ [];
    log =
        ap (λ l. l ++ x ∷ []) k.chained.log
        ∙ append_assoc k.chained.front (joined k.chained.closed (k.chained.last.commits ++ k.chained.rest)) (x ∷ [])
        ∙ ap (λ l. k.chained.front ++ l)
        (sym (joined-append k.chained.closed (k.chained.last.commits ++ k.chained.rest) (x ∷ []))
        ∙ ap (joined k.chained.closed) (append_assoc k.chained.last.commits k.chained.rest (x ∷ [])));
    synced = k.chained.synced;
    told = k.chained.told;
    durable = k.chained.durable;
    chain = k.chained.chain;
    newer = λ n far file stands. if_some file (IsTablesAt next w.first w.log (length k.chained.front) k.chained.closed n)
        (IsTablesAt next w.first (w.log ++ x ∷ []) (length k.chained.front) k.chained.closed n)
        (λ f h. (h.0, h.1 ∙ ap (λ l. whole (tables_after next w.first l)) (sym (stable next d w k.chained n h.0 (x ∷ [])))))
        (k.chained.newer n far file stands);
    others = k.chained.others;
    written = λ n far. if_some (w.written n)
        (IsWrittenAt next w.first w.log (length k.chained.front) k.chained.closed n)
        (IsWrittenAt next w.first (w.log ++ x ∷ []) (length k.chained.front) k.chained.closed n)
        (λ f h. (h.0, h.1 ∙ ap (λ l. tables_after next w.first l) (sym (stable next d w k.chained n h.0 (x ∷ [])))))
        (k.chained.written n far);
    active = k.chained.active;
  };
  root = k.root;
  old = record {
    tables = λ n file stands. if_some file
        (AreOldTables next w.first w.log (last_at k.chained) n)
        (AreOldTables next w.first (w.log ++ x ∷ []) (last_at k.chained) n)
        (λ f h. (h.0, h.1 ∙ ap (λ l. whole (tables_after next w.first l)) (sym (same n h.0)))) (k.old.tables n file stands);
    segments = λ n file stands. elim (k.old.segments n file stands) [
      | inl e ↦ inl e
      | inr h ↦ inr (if_some file (λ (s : Segment C). IsPart w.log (last_at k.chained) n s.commits)
          (λ (s : Segment C). IsPart (w.log ++ x ∷ []) (last_at k.chained) n s.commits)
          (λ s h. part-more w.log (x ∷ []) (last_at k.chained) n s.commits inside h) h)
    ];
    written = λ n. if_some (w.written n)
        (AreOldWritten next w.first w.log (last_at k.chained) n)
        (AreOldWritten next w.first (w.log ++ x ∷ []) (last_at k.chained) n)
        (λ f h. (h.0, h.1 ∙ ap (λ l. tables_after next w.first l) (sym (same n h.0)))) (k.old.written n);
  };
}
  where
    inside : last_at k.chained ≤ length w.log
    inside = let l = log-length next d w k.chained in omega (arith, l)

    same : (n : ℕ) → n ≤ last_at k.chained → take n (w.log ++ x ∷ []) ≡ take n w.log
    same n low = take-append-le n w.log (x ∷ []) (let h = inside in omega arith)

-- the last segment is another, which goes on with the log
last_keeps : {T C : Type 0} (next : T → C → T) (d : ℕ) (w : World T C) (k : Kept next d w) (f : Segment C → Segment C)
    (rest : List C)
    → w.log ≡ k.chained.front ++ joined k.chained.closed ((f k.chained.last).commits ++ rest)
    → (f k.chained.last).synced ≤ length (f k.chained.last).commits
    → k.chained.last.synced ≤ (f k.chained.last).synced
    → Kept next d (record w {
      segments = changed_at (end_of (length k.chained.front) k.chained.closed) (changed f) w.segments;
    })
last_keeps {T} {C} next d w k f rest log synced more = record {
  chained = record {
    front = k.chained.front;
    closed = k.chained.closed;
    last = f k.chained.last;
    rest = rest;
    log = log;
    synced = synced;
    told = (let told : w.told ≤ (last_at k.chained) + k.chained.last.synced = k.chained.told in omega arith);
    durable = (let durable : d ≤ last_at k.chained + k.chained.last.synced = k.chained.durable in omega arith);
    chain = sure-last w.segments f (length k.chained.front) k.chained.closed k.chained.last (last_at k.chained) refl k.chained.chain;
    newer = k.chained.newer;
    others = changed-each (OtherSegment (length k.chained.front) k.chained.closed) (last_at k.chained) (changed f) w.segments
        (λ far. inl (end-begins (length k.chained.front) k.chained.closed)) k.chained.others;
    written = k.chained.written;
    active = k.chained.active;
  };
  root = k.root;
  old = record {
    tables = k.old.tables;
    segments = changed-each (OldSegment w.log (last_at k.chained)) (last_at k.chained) (changed f) w.segments
        (λ file stands. inl refl) k.old.segments;
    written = k.old.written;
  };
}

-- it writes up to a commit
pub append_keeps : {T C : Type 0} (next : T → C → T) (d : ℕ) (w : World T C) → Kept next d w → (at count : ℕ)
    (segment : Segment C) → IsActive w at segment → at + length segment.commits ≤ count
    → Kept next d (record w {
      segments = changed_at at
          (changed (λ (s : Segment C). record s { commits = drop at (take count w.log) })) w.segments;
    })
append_keeps {T} {C} next d w k at count segment is enough =
    subst (λ (n : ℕ). Kept next d (record w {
      segments = changed_at n (changed (λ (s : Segment C). record s { commits = drop n (take count w.log) })) w.segments;
    })) (sym at_end)
    (last_keeps next d w k (λ (s : Segment C). record s { commits = drop (last_at k.chained) (take count w.log) })
    (drop more k.chained.rest) log long (omega arith))
  where
    at_end : at ≡ last_at k.chained
    at_end = active-is next d w k.chained at is.0

    -- so many are written behind those that the last segment has
    more : ℕ
    more = count - (last_at k.chained + length k.chained.last.commits)

    commits : drop (last_at k.chained) (take count w.log) ≡ k.chained.last.commits ++ take more k.chained.rest
    commits =
        let before = front-length next d w k.chained in
        let same : length segment.commits ≡ length k.chained.last.commits =
        ap (λ (s : Segment C). length s.commits) (segment-is next d w k.chained at segment is) in
        ap (λ l. drop (last_at k.chained) (take count l)) (log-at-end next d w k.chained)
        ∙ ap (λ (n : ℕ). drop n (take count (longer k.chained.front k.chained.closed
        ++ (k.chained.last.commits ++ k.chained.rest)))) (sym before)
        ∙ written-up (longer k.chained.front k.chained.closed) k.chained.last.commits k.chained.rest count more
        (omega (arith, before, same, at_end))

    log : w.log ≡ k.chained.front
        ++ joined k.chained.closed (drop (last_at k.chained) (take count w.log) ++ drop more k.chained.rest)
    log =
        k.chained.log ∙ ap (λ l. k.chained.front ++ joined k.chained.closed l)
        (rest-of k.chained.last.commits k.chained.rest more ∙ ap (λ l. l ++ drop more k.chained.rest) (sym commits))

    long : k.chained.last.synced ≤ length (drop (last_at k.chained) (take count w.log))
    long =
        omega (arith, ap length commits, k.chained.synced, length-append k.chained.last.commits (take more k.chained.rest))

pub sync_keeps : {T C : Type 0} (next : T → C → T) (d : ℕ) (w : World T C) → Kept next d w → (at : ℕ) → w.active ≡ Some at
    → Kept next d (record w {
      segments = changed_at at (changed (λ (s : Segment C). settled s.commits)) w.segments;
    })
sync_keeps {T} {C} next d w k at is =
    subst (λ (n : ℕ). Kept next d (record w {
      segments = changed_at n (changed (λ (s : Segment C). settled s.commits)) w.segments;
    })) (sym (active-is next d w k.chained at is))
    (last_keeps next d w k (λ (s : Segment C). settled s.commits) k.chained.rest k.chained.log (omega arith) k.chained.synced)

pub tell_keeps : {T C : Type 0} (next : T → C → T) (d : ℕ) (w : World T C) → Kept next d w → (at count : ℕ) (segment : Segment C)
    → IsActive w at segment → count ≤ at + segment.synced → Kept next d (record w { told = max w.told count })
tell_keeps {T} {C} next d w k at count segment is few = record {
  chained = record {
    front = k.chained.front;
    closed = k.chained.closed;
    last = k.chained.last;
    rest = k.chained.rest;
    log = k.chained.log;
    synced = k.chained.synced;
    told =
        (let same : segment.synced ≡ k.chained.last.synced =
        ap (λ (s : Segment C). s.synced) (segment-is next d w k.chained at segment is) in
        let here : at ≡ end_of (length k.chained.front) k.chained.closed = active-is next d w k.chained at is.0 in
        let told : w.told ≤ end_of (length k.chained.front) k.chained.closed + k.chained.last.synced = k.chained.told in
        omega arith);
    durable = k.chained.durable;
    chain = k.chained.chain;
    newer = k.chained.newer;
    others = k.chained.others;
    written = k.chained.written;
    active = k.chained.active;
  };
  root = k.root;
  old = record { tables = k.old.tables; segments = k.old.segments; written = k.old.written };
}

-- a new segment stands behind the last one's beginning
pub begin_keeps : {T C : Type 0} (next : T → C → T) (d : ℕ) (w : World T C) → Kept next d w → (at new : ℕ) (segment : Segment C)
    → IsActive w at segment → IsFull at new segment
    → Kept next d (record w { segments = changed_at new (renamed (Some empty)) w.segments })
begin_keeps {T} {C} next d w k at new segment is full =
    with_segments next d w k (changed_at new (renamed (Some empty)) w.segments)
    (sure-apart w.segments (changed_at new (renamed (Some empty)) w.segments) (length k.chained.front) k.chained.closed
    k.chained.last (λ n b. changed-other new (renamed (Some empty)) w.segments n (apart n b)) k.chained.chain)
    (changed-each (OtherSegment (length k.chained.front) k.chained.closed) new (renamed (Some empty)) w.segments
    (λ far. elim (k.chained.others new far) [
      | inl b ↦ inl b
      | inr none ↦
          inr (renamed-each (λ (o : Option (Segment C)). IfSome o (λ (s : Segment C). s.commits ≡ [])) (Some empty)
          (w.segments new) refl none)
    ]) k.chained.others)
    (changed-each (OldSegment w.log (last_at k.chained)) new (renamed (Some empty)) w.segments
    (renamed-each (IsOldSegment w.log (last_at k.chained) new) (Some empty) (w.segments new) (inr (inl refl))
    (k.old.segments new)) k.old.segments)
  where
    apart : (n : ℕ) → IsBegin (length k.chained.front) k.chained.closed n → n ≡ new → ⊥
    apart n b e =
        let low : n ≤ end_of (length k.chained.front) k.chained.closed =
        begin-before (length k.chained.front) k.chained.closed n b in
        let here : at ≡ end_of (length k.chained.front) k.chained.closed = active-is next d w k.chained at is.0 in
        omega (arith, full.some, full.next_is)

-- what stands there whatever crashes is what reads
now-stands : {A : Type 0} (place : Place A) (file : Option A) → MayStand (sure place.now) file → MayStand place file
now-stands place file stands = inl (stands-sure (sure place.now) place.now file refl stands)

pub names_keep : {T C : Type 0} (next : T → C → T) (d : ℕ) (w : World T C) → Kept next d w
    → Kept next d (record w { segments = λ n. sure (w.segments n).now })
names_keep {T} {C} next d w k =
    with_segments next d w k (λ n. sure (w.segments n).now)
    (sure-synced w.segments (length k.chained.front) k.chained.closed k.chained.last k.chained.chain)
    (λ n far. elim (k.chained.others n far) [
      | inl b ↦ inl b
      | inr none ↦ inr (λ file stands. none file (now-stands (w.segments n) file stands))
    ])
    (λ n file stands. k.old.segments n file (now-stands (w.segments n) file stands))

pub name_synced_keeps : {T C : Type 0} (next : T → C → T) (d : ℕ) (w : World T C) → Kept next d w → (number : ℕ)
    → Kept next d (record w { tables = changed_at number (λ place. sure place.now) w.tables })
name_synced_keeps {T} {C} next d w k number =
    with_tables next d w k (changed_at number (λ place. sure place.now) w.tables)
    (changed-each (λ n (place : Place (Written T)). n ≡ length k.chained.front
    → place ≡ sure (Some (whole (tables_after next w.first k.chained.front)))) number (λ place. sure place.now) w.tables
    (λ e. ap (λ (p : Place (Written T)). sure p.now) (there number e)) there (length k.chained.front) refl)
    (changed-each (NewerTables next w.first w.log (length k.chained.front) k.chained.closed) number
    (λ place. sure place.now) w.tables
    (λ far file stands. k.chained.newer number far file (now-stands (w.tables number) file stands)) k.chained.newer)
    (changed-each (OldTables next w.first w.log (last_at k.chained)) number (λ place. sure place.now) w.tables
    (λ file stands. k.old.tables number file (now-stands (w.tables number) file stands)) k.old.tables)
  where
    there : (n : ℕ) → n ≡ length k.chained.front
        → w.tables n ≡ sure (Some (whole (tables_after next w.first k.chained.front)))
    there n e = ap w.tables e ∙ k.root

pub goes_on_keeps : {T C : Type 0} (next : T → C → T) (d : ℕ) (w : World T C) → Kept next d w → (at new : ℕ) (segment : Segment C)
    → IsActive w at segment → IsFull at new segment → w.segments new ≡ sure (Some empty)
    → Kept next d (record w { active = Some new })
goes_on_keeps {T} {C} next d w k at new segment is full there = record {
  chained = record {
    front = k.chained.front;
    closed = k.chained.closed ++ k.chained.last.commits ∷ [];
    last = empty;
    rest = k.chained.rest;
    log = k.chained.log ∙ ap (λ l. k.chained.front ++ l) (sym (joined-snoc k.chained.closed k.chained.last.commits k.chained.rest));
    synced = omega arith;
    told =
        (let e = end-snoc (length k.chained.front) k.chained.closed k.chained.last.commits in
        let told : w.told ≤ end_of (length k.chained.front) k.chained.closed + k.chained.last.synced = k.chained.told in
        let synced : k.chained.last.synced ≤ length k.chained.last.commits = k.chained.synced in
        omega (arith, e));
    durable =
        (let e = end-snoc (length k.chained.front) k.chained.closed k.chained.last.commits in
        let durable : d ≤ end_of (length k.chained.front) k.chained.closed + k.chained.last.synced = k.chained.durable in
        let synced : k.chained.last.synced ≤ length k.chained.last.commits = k.chained.synced in
        omega (arith, e));
    chain = sure-snoc w.segments (length k.chained.front) k.chained.closed k.chained.last.commits empty
        (subst (λ (s : Segment C). IsSureChain w.segments (length k.chained.front) k.chained.closed s) on_disk
        k.chained.chain)
        (subst (λ (n : ℕ). 0 < n) lengths full.some)
        (subst (λ (n : ℕ). w.segments n ≡ sure (Some empty)) new_is there);
    newer = λ n far file stands. if_some file
        (IsTablesAt next w.first w.log (length k.chained.front) k.chained.closed n)
        (IsTablesAt next w.first w.log (length k.chained.front) (k.chained.closed ++ k.chained.last.commits ∷ []) n)
        (λ f h. (snoc-begins (length k.chained.front) k.chained.closed k.chained.last.commits n h.0, h.1))
        (k.chained.newer n far file stands);
    others = λ n far. elim (k.chained.others n far) [
      | inl b ↦ inl (snoc-begins (length k.chained.front) k.chained.closed k.chained.last.commits n b)
      | inr none ↦ inr none
    ];
    written = λ n far. if_some (w.written n)
        (IsWrittenAt next w.first w.log (length k.chained.front) k.chained.closed n)
        (IsWrittenAt next w.first w.log (length k.chained.front) (k.chained.closed ++ k.chained.last.commits ∷ []) n)
        (λ f h. (snoc-begins (length k.chained.front) k.chained.closed k.chained.last.commits n h.0, h.1))
        (k.chained.written n far);
    active = new_is ∙ sym (end-snoc (length k.chained.front) k.chained.closed k.chained.last.commits);
  };
  root = k.root;
  old = record {
    tables = λ n file stands. if_some file
        (AreOldTables next w.first w.log (last_at k.chained) n)
        (AreOldTables next w.first w.log (end_of (length k.chained.front) (k.chained.closed ++ k.chained.last.commits ∷ [])) n)
        (λ f h. (let g = grows in let low = h.0 in omega arith, h.1)) (k.old.tables n file stands);
    segments = λ n file stands. inr (part n file stands (k.old.segments n file stands));
    written = λ n. if_some (w.written n)
        (AreOldWritten next w.first w.log (last_at k.chained) n)
        (AreOldWritten next w.first w.log (end_of (length k.chained.front) (k.chained.closed ++ k.chained.last.commits ∷ [])) n)
        (λ f h. (let g = grows in let low = h.0 in omega arith, h.1)) (k.old.written n);
  };
}
  where
    same : segment ≡ k.chained.last
    same = segment-is next d w k.chained at segment is

    lengths : length segment.commits ≡ length k.chained.last.commits
    lengths = ap (λ (s : Segment C). length s.commits) same

    on_disk : k.chained.last ≡ settled k.chained.last.commits
    on_disk =
        let e : k.chained.last.synced ≡ length k.chained.last.commits =
        sym (ap (λ (s : Segment C). s.synced) same) ∙ full.synced ∙ lengths in
        ap (λ (n : ℕ). record { commits = k.chained.last.commits; synced = n }) e

    new_is : new ≡ end_of (length k.chained.front) k.chained.closed + length k.chained.last.commits
    new_is =
        let here : at ≡ end_of (length k.chained.front) k.chained.closed = active-is next d w k.chained at is.0 in
        let l : length segment.commits ≡ length k.chained.last.commits = lengths in
        omega (arith, full.next_is)

    new_end : end_of (length k.chained.front) (k.chained.closed ++ k.chained.last.commits ∷ [])
        ≡ last_at k.chained + length k.chained.last.commits
    new_end = end-snoc (length k.chained.front) k.chained.closed k.chained.last.commits

    grows : last_at k.chained ≤ end_of (length k.chained.front) (k.chained.closed ++ k.chained.last.commits ∷ [])
    grows = let e = new_end in omega (arith, e)

    behind : drop (last_at k.chained) w.log ≡ k.chained.last.commits ++ k.chained.rest
    behind =
        ap (drop (last_at k.chained)) (log-at-end next d w k.chained)
        ∙ ap (λ (m : ℕ). drop m (longer k.chained.front k.chained.closed ++ (k.chained.last.commits ++ k.chained.rest)))
        (sym (front-length next d w k.chained))
        ∙ drop-append_seam (longer k.chained.front k.chained.closed) (k.chained.last.commits ++ k.chained.rest)

    last_part : IsPart w.log (end_of (length k.chained.front) (k.chained.closed ++ k.chained.last.commits ∷ []))
        (last_at k.chained) k.chained.last.commits
    last_part =
        inr (
          (let e = new_end in omega (arith, e)),
          sym (ap (take (length k.chained.last.commits)) behind ∙ take-append_seam k.chained.last.commits k.chained.rest),
        )

    part : (n : ℕ) (file : Option (Segment C)) → MayStand (w.segments n) file
        → (n ≡ last_at k.chained) ⊎ IfSome file (λ (s : Segment C). IsPart w.log (last_at k.chained) n s.commits)
        → IfSome file (λ (s : Segment C). IsPart w.log
        (end_of (length k.chained.front) (k.chained.closed ++ k.chained.last.commits ∷ [])) n s.commits)
    part n file stands (inl e) =
        let place : w.segments n ≡ sure (Some k.chained.last) =
        ap w.segments e ∙ sure-end w.segments (length k.chained.front) k.chained.closed k.chained.last k.chained.chain in
        subst (λ (o : Option (Segment C)). IfSome o (λ (s : Segment C). IsPart w.log
        (end_of (length k.chained.front) (k.chained.closed ++ k.chained.last.commits ∷ [])) n s.commits))
        (sym (stands-sure (w.segments n) (Some k.chained.last) file place stands))
        (subst (λ (m : ℕ). IsPart w.log
        (end_of (length k.chained.front) (k.chained.closed ++ k.chained.last.commits ∷ [])) m k.chained.last.commits) (sym e)
        last_part)
    part n file stands (inr h) =
        if_some file (λ (s : Segment C). IsPart w.log (last_at k.chained) n s.commits)
        (λ (s : Segment C). IsPart w.log
        (end_of (length k.chained.front) (k.chained.closed ++ k.chained.last.commits ∷ [])) n s.commits)
        (λ s h. part-later w.log (last_at k.chained)
        (end_of (length k.chained.front) (k.chained.closed ++ k.chained.last.commits ∷ [])) n s.commits grows h) h
