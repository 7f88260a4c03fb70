-- The steps of a checkpoint keep what every world keeps.
use Rattle.std.proofs.Common.{◌≡◌, ◌⊎◌, ℕ, ◌+◌, ◌<◌, ◌≤◌, false, List, [], ◌∷◌, ◌++◌, length, take}
use Rattle.std.proofs.Common.{refl, sym, ap, ◌∙◌, inl, inr, arith, append_assoc, length-append, Option, Some, None, IfSome}
use Rattle.std.proofs.Common.{subst, option_map, fold}
use Rattle.std.proofs.lemmas.List.Sums.{fold-append}
use Rattle.std.proofs.lemmas.Bool.{cases_lt}
use Rattle.std.proofs.Math.Seq.{take-append_seam}
use Rattle.store_core.specs.Places.{Place, sure, renamed, MayStand, Segment, Written, whole}
use Rattle.store_core.specs.Found.{Found, joined, end_of, IsBegin, AreNewest, tables_after}
use Rattle.store_core.specs.World.{World, HasNewer, AreClosed, reads, changed_at}
use Rattle.store_core.proofs.ListLaws.{joined-append, end-is, end-after, begin-after, begin-before, first-begins, split-at}
use Rattle.store_core.proofs.ChainLaws.{IsSureChain, changed-other, changed-each, renamed-each, sure-apart}
use Rattle.store_core.proofs.StepLaws.{with_segments, with_tables}
use Rattle.store_core.proofs.Keeping.{Old, NewerTables, OtherSegment, NewerWritten, OldTables, OldSegment, OldWritten, IsOldSegment, AreOldTables, last_at, Chained, Kept, NoCommits, IsTablesAt, Rerooted, reroot}

-- what a segment reads as
abbrev pub commits_at : {C : Type 0} → (ℕ → Place (Segment C)) → ℕ → Option (List C)
commits_at segments n = option_map (λ segment. segment.commits) (segments n).now

-- closed segments that were read are the first of the chain
pub record Folded {C : Type 0} (at : ℕ) (parts found : List (List C)) : Type 0 where
  pub tail : List (List C)
  pub begins : IsBegin at parts (end_of at found)
  pub are : (more : List C) → joined parts more ≡ joined found (joined tail more)

closed-some : {C : Type 0} (segments : ℕ → Option (List C)) (at : ℕ) (parts : List (List C)) (later : List C)
    → AreClosed segments at parts later → (part : List C) × (segments at ≡ Some part) × (0 < length part)
closed-some segments at [] later h = (later, h.0, h.1)
closed-some segments at (p ∷ ps) later h = (p, h.0, h.1)

not-empty : {C : Type 0} (o : Option (List C)) (part : List C) → o ≡ Some part → 0 < length part
    → IfSome o (λ commits. commits ≡ []) → ⊥
not-empty {C} o part e some none =
    let is : part ≡ [] = subst (λ (x : Option (List C)). IfSome x (λ commits. commits ≡ [])) e none in
    let l : length part ≡ 0 = ap length is in
    omega arith

pub folded : {C : Type 0} (segments : ℕ → Place (Segment C)) (at : ℕ) (parts : List (List C)) (last : Segment C)
    → IsSureChain segments at parts last
    → ((n : ℕ) → end_of at parts < n → IfSome (commits_at segments n) (λ commits. commits ≡ []))
    → (found : List (List C)) (later : List C) → AreClosed (commits_at segments) at found later → Folded at parts found
folded segments at parts last h none [] later closed = record {
  tail = parts;
  begins = first-begins at parts;
  are = λ more. refl;
}
folded {C} segments at [] last h none (p ∷ ps) later closed =
    let next = closed-some (commits_at segments) (at + length p) ps later closed.2 in
    let some : 0 < length p = closed.1 in
    absurd (not-empty (commits_at segments (at + length p)) next.0 next.1 next.2 (none (at + length p) (omega arith)))
folded {C} segments at (q ∷ qs) last h none (p ∷ ps) later closed =
    let there : commits_at segments at ≡ Some q =
    ap (λ (place : Place (Segment C)). option_map (λ (s : Segment C). s.commits) place.now) h.0 in
    let both : Some p ≡ Some q = sym closed.0 ∙ there in
    let same : p ≡ q = cc in
    let rest = folded segments (at + length q) qs last h.2 none ps later
    (subst (λ (x : List C). AreClosed (commits_at segments) (at + length x) ps later) same closed.2) in
    record {
      tail = rest.tail;
      begins = inr (subst (λ (x : List C). IsBegin (at + length q) qs (end_of (at + length x) ps)) (sym same) rest.begins);
      are = λ more. ap (λ l. q ++ l) (rest.are more) ∙ ap (λ l. l ++ joined ps (joined rest.tail more)) (sym same);
    }

-- the newest tables as they read are those after a front of the log
pub record Newest {T C : Type 0} (next : T → C → T) (d : ℕ) (w : World T C) (c : Chained next d w) (n : ℕ) (tables : T) : Type 0
  where
    pub rerooted : Rerooted next d w c n
    pub are : tables ≡ tables_after next w.first (take n w.log)

-- tables that read so are the ones that stand there
read-tables : {T C : Type 0} (next : T → C → T) (first : T) (log : List C) (at : ℕ) (closed : List (List C)) (n : ℕ)
    (file : Option (Written T)) (tables : T) → option_map (λ f. f.tables) file ≡ Some tables
    → IfSome file (IsTablesAt next first log at closed n)
    → IsBegin at closed n × (tables ≡ tables_after next first (take n log))
read-tables next first log at closed n None tables e h = absurd cc
read-tables {T} next first log at closed n (Some f) tables e h =
    let same : f.tables ≡ tables = cc in
    (h.0, sym same ∙ ap (λ (g : Written T). g.tables) h.1)

pub newest : {T C : Type 0} (next : T → C → T) (d : ℕ) (w : World T C) (k : Kept next d w) (n : ℕ) (tables : T)
    → AreNewest (reads w).tables n tables → Newest next d w k.chained n tables
newest {T} {C} next d w k n tables are =
    by (cases_lt n (length k.chained.front)) (cases_lt (length k.chained.front) n)
  where
    root : (reads w).tables (length k.chained.front) ≡ Some (tables_after next w.first k.chained.front)
    root = ap (λ (p : Place (Written T)). option_map (λ (f : Written T). f.tables) p.now) k.root

    of : IsBegin (length k.chained.front) k.chained.closed n × (tables ≡ tables_after next w.first (take n w.log))
        → Newest next d w k.chained n tables
    of h = record { rerooted = reroot next d w k.chained n (split-at (length k.chained.front) k.chained.closed n h.0); are = h.1 }

    by : (n < length k.chained.front) ⊎ (length k.chained.front ≤ n) → (length k.chained.front < n) ⊎ (n ≤ length k.chained.front)
        → Newest next d w k.chained n tables
    by (inl low) other =
        absurd (let none : (reads w).tables (length k.chained.front) ≡ None = are.none_newer (length k.chained.front) low in
        let there : (reads w).tables (length k.chained.front) ≡ Some (tables_after next w.first k.chained.front) = root in
        cc)
    by (inr high) (inl far) =
        of (read-tables next w.first w.log (length k.chained.front) k.chained.closed n (w.tables n).now tables are.are
        (k.chained.newer n far (w.tables n).now (inl refl)))
    by (inr high) (inr low) =
        let here : length k.chained.front ≡ n = omega arith in
        let there : Some (tables_after next w.first k.chained.front) ≡ Some tables =
        sym root ∙ ap (λ (m : ℕ). (reads w).tables m) here ∙ are.are in
        let value : tables_after next w.first k.chained.front ≡ tables = cc in
        let front : take n w.log ≡ k.chained.front =
        ap (λ (m : ℕ). take m w.log) (sym here) ∙ ap (take (length k.chained.front)) k.chained.log
        ∙ take-append_seam k.chained.front (joined k.chained.closed (k.chained.last.commits ++ k.chained.rest)) in
        of (
          subst (λ (m : ℕ). IsBegin (length k.chained.front) k.chained.closed m) here
              (first-begins (length k.chained.front) k.chained.closed),
          sym value ∙ ap (tables_after next w.first) (sym front),
        )

-- no segment behind the last one reads as one with commits
pub none-reads : {T C : Type 0} (next : T → C → T) (d : ℕ) (w : World T C) (c : Chained next d w) (n : ℕ)
    → end_of (length c.front) c.closed < n → IfSome (commits_at w.segments n) (λ commits. commits ≡ [])
none-reads {T} {C} next d w c n far = by (c.others n (omega (arith, end-after (length c.front) c.closed)))
  where
    read : (file : Option (Segment C)) → IfSome file (λ (s : Segment C). s.commits ≡ [])
        → IfSome (option_map (λ (s : Segment C). s.commits) file) (λ commits. commits ≡ [])
    read None h = tt
    read (Some s) h = h

    by : IsBegin (length c.front) c.closed n ⊎ NoCommits (w.segments n)
        → IfSome (commits_at w.segments n) (λ commits. commits ≡ [])
    by (inl b) = absurd (let low : n ≤ end_of (length c.front) c.closed = begin-low b in omega arith)
      where
        begin-low : IsBegin (length c.front) c.closed n → n ≤ end_of (length c.front) c.closed
        begin-low b = begin-before (length c.front) c.closed n b
    by (inr none) = read (w.segments n).now (none (w.segments n).now (inl refl))

-- tables that a checkpoint writes are those after the commits that it read
pub fold-is : {T C : Type 0} (next : T → C → T) (d : ℕ) (w : World T C) (k : Kept next d w) (found : Found T C) (tables : T)
    → AreNewest (reads w).tables found.after found.tables
    → AreClosed (reads w).segments found.after found.closed found.last
    → tables ≡ tables_after next found.tables (joined found.closed [])
    → IsBegin (length k.chained.front) k.chained.closed (end_of found.after found.closed)
    × (tables ≡ tables_after next w.first (take (end_of found.after found.closed) w.log))
fold-is {T} {C} next d w k found tables are closed is =
    let n : Newest next d w k.chained found.after found.tables = newest next d w k found.after found.tables are in
    with_root n.rerooted n.are
  where
    with_root : Rerooted next d w k.chained found.after → found.tables ≡ tables_after next w.first (take found.after w.log)
        → IsBegin (length k.chained.front) k.chained.closed (end_of found.after found.closed)
        × (tables ≡ tables_after next w.first (take (end_of found.after found.closed) w.log))
    with_root r old =
        let here : found.after ≡ length r.to.front = sym r.at in
        let read : AreClosed (commits_at w.segments) (length r.to.front) found.closed found.last =
        subst (λ (a : ℕ). AreClosed (commits_at w.segments) a found.closed found.last) here closed in
        let f : Folded (length r.to.front) r.to.closed found.closed =
        folded w.segments (length r.to.front) r.to.closed r.to.last r.to.chain (none-reads next d w r.to) found.closed
        found.last read in
        let end : end_of (length r.to.front) found.closed ≡ end_of found.after found.closed =
        ap (λ (a : ℕ). end_of a found.closed) r.at in (
          subst (λ (m : ℕ). IsBegin (length k.chained.front) k.chained.closed m) end
              (r.back (end_of (length r.to.front) found.closed) f.begins),
          value r f end old,
        )
      where
        value : (r : Rerooted next d w k.chained found.after) → Folded (length r.to.front) r.to.closed found.closed
            → end_of (length r.to.front) found.closed ≡ end_of found.after found.closed
            → found.tables ≡ tables_after next w.first (take found.after w.log)
            → tables ≡ tables_after next w.first (take (end_of found.after found.closed) w.log)
        value r f end old =
            let log : w.log ≡ (r.to.front ++ joined found.closed []) ++ joined f.tail (r.to.last.commits ++ r.to.rest) =
            r.to.log ∙ ap (λ l. r.to.front ++ l) (f.are (r.to.last.commits ++ r.to.rest)
            ∙ joined-append found.closed [] (joined f.tail (r.to.last.commits ++ r.to.rest)))
            ∙ sym (append_assoc r.to.front (joined found.closed []) (joined f.tail (r.to.last.commits ++ r.to.rest))) in
            let ends : length r.to.front + length (joined found.closed []) ≡ end_of (length r.to.front) found.closed + 0 =
            end-is (length r.to.front) found.closed [] in
            let long : length (r.to.front ++ joined found.closed []) ≡ end_of found.after found.closed =
            omega (arith, ends, end, length-append r.to.front (joined found.closed [])) in
            let taken : take (end_of found.after found.closed) w.log ≡ r.to.front ++ joined found.closed [] =
            ap (take (end_of found.after found.closed)) log
            ∙ ap (λ (m : ℕ). take m ((r.to.front ++ joined found.closed []) ++ joined f.tail (r.to.last.commits ++ r.to.rest)))
            (sym long)
            ∙ take-append_seam (r.to.front ++ joined found.closed []) (joined f.tail (r.to.last.commits ++ r.to.rest)) in
            let front : found.tables ≡ fold next w.first r.to.front =
            old ∙ ap (fold next w.first) (sym r.front) in
            is ∙ ap (λ (t : T). fold next t (joined found.closed [])) front
            ∙ sym (fold-append next w.first r.to.front (joined found.closed []))
            ∙ ap (fold next w.first) (sym taken)

-- other tables are written, in their places
written-keep : {T C : Type 0} (next : T → C → T) (d : ℕ) (w : World T C) (k : Kept next d w) (written : ℕ → Option (Written T))
    → ((n : ℕ) → NewerWritten next w.first w.log (length k.chained.front) k.chained.closed n (written n))
    → ((n : ℕ) → OldWritten next w.first w.log (last_at k.chained) n (written n))
    → Kept next d (record w { written = written })
written-keep next d w k written each every = record {
  chained = record {
    front = k.chained.front;
    closed = k.chained.closed;
    last = k.chained.last;
    rest = k.chained.rest;
    log = k.chained.log;
    synced = k.chained.synced;
    told = k.chained.told;
    durable = k.chained.durable;
    chain = k.chained.chain;
    newer = k.chained.newer;
    others = k.chained.others;
    written = each;
    active = k.chained.active;
  };
  root = k.root;
  old = record { tables = k.old.tables; segments = k.old.segments; written = every };
}

-- of all that a checkpoint writes
written-each : {T C : Type 0} (next : T → C → T) (d : ℕ) (w : World T C) (k : Kept next d w) (number : ℕ)
    (f : Option (Written T) → Option (Written T))
    → NewerWritten next w.first w.log (length k.chained.front) k.chained.closed number (f (w.written number))
    → OldWritten next w.first w.log (last_at k.chained) number (f (w.written number))
    → Kept next d (record w { written = changed_at number f w.written })
written-each {T} next d w k number f here old =
    written-keep next d w k (changed_at number f w.written)
    (changed-each (NewerWritten next w.first w.log (length k.chained.front) k.chained.closed) number f w.written here
    k.chained.written)
    (changed-each (OldWritten next w.first w.log (last_at k.chained))
    number f w.written old k.old.written)

pub fold_keeps : {T C : Type 0} (next : T → C → T) (d : ℕ) (w : World T C) → Kept next d w → (found : Found T C) (tables : T)
    → AreNewest (reads w).tables found.after found.tables
    → AreClosed (reads w).segments found.after found.closed found.last
    → tables ≡ tables_after next found.tables (joined found.closed [])
    → Kept next d (record w {
      written = changed_at (end_of found.after found.closed) (λ _. Some (record { tables = tables; synced = false })) w.written;
    })
fold_keeps next d w k found tables are closed is =
    let is_at = fold-is next d w k found tables are closed is in
    written-each next d w k (end_of found.after found.closed) (λ _. Some (record { tables = tables; synced = false }))
    (λ far. is_at)
    (begin-before (length k.chained.front) k.chained.closed (end_of found.after found.closed) is_at.0, is_at.1)

synced-too : {T : Type 0} (P : T → Type 0) (o : Option (Written T)) → IfSome o (λ f. P f.tables)
    → IfSome (option_map (λ (f : Written T). whole f.tables) o) (λ f. P f.tables)
synced-too P None h = tt
synced-too P (Some f) h = h

pub sync_tables_keeps : {T C : Type 0} (next : T → C → T) (d : ℕ) (w : World T C) → Kept next d w → (number : ℕ)
    → Kept next d (record w { written = changed_at number (option_map (λ (f : Written T). whole f.tables)) w.written })
sync_tables_keeps {T} next d w k number =
    written-each next d w k number (option_map (λ (f : Written T). whole f.tables))
    (λ far. synced-too (λ (t : T). IsBegin (length k.chained.front) k.chained.closed number
    × (t ≡ tables_after next w.first (take number w.log))) (w.written number) (k.chained.written number far))
    (synced-too (λ (t : T). (number ≤ last_at k.chained) × (t ≡ tables_after next w.first (take number w.log)))
    (w.written number) (k.old.written number))

-- tables that are on the disk get their name
pub name_keeps : {T C : Type 0} (next : T → C → T) (d : ℕ) (w : World T C) → Kept next d w → (number : ℕ) (tables : T)
    → w.written number ≡ Some (whole tables) → (w.tables number).now ≡ None
    → Kept next d (record w { tables = changed_at number (renamed (w.written number)) w.tables })
name_keeps {T} {C} next d w k number tables is none =
    with_tables next d w k (changed_at number (renamed (w.written number)) w.tables)
    (changed-other number (renamed (w.written number)) w.tables (length k.chained.front) apart ∙ k.root)
    (changed-each (NewerTables next w.first w.log (length k.chained.front) k.chained.closed) number
    (renamed (w.written number)) w.tables (λ far. renamed-each
    (λ (o : Option (Written T)). IfSome o (IsTablesAt next w.first w.log (length k.chained.front) k.chained.closed number))
    (w.written number) (w.tables number) (whole-too (IsBegin (length k.chained.front) k.chained.closed number)
    (tables_after next w.first (take number w.log)) (k.chained.written number far)) (k.chained.newer number far))
    k.chained.newer)
    (changed-each (OldTables next w.first w.log (last_at k.chained)) number (renamed (w.written number)) w.tables
    (renamed-each (λ (o : Option (Written T)). IfSome o (AreOldTables next w.first w.log (last_at k.chained) number))
    (w.written number) (w.tables number)
    (whole-too (number ≤ last_at k.chained) (tables_after next w.first (take number w.log)) (k.old.written number))
    (k.old.tables number)) k.old.tables)
  where
    apart : length k.chained.front ≡ number → ⊥
    apart e =
        let there : (w.tables number).now ≡ Some (whole (tables_after next w.first k.chained.front)) =
        ap (λ (m : ℕ). (w.tables m).now) (sym e) ∙ ap (λ (p : Place (Written T)). p.now) k.root in
        let not_there : (w.tables number).now ≡ None = none in
        cc

    whole-too : (P : Type 0) (value : T) → IfSome (w.written number) (λ (f : Written T). P × (f.tables ≡ value))
        → IfSome (w.written number) (λ (f : Written T). P × (f ≡ whole value))
    whole-too P value h =
        subst (λ (o : Option (Written T)). IfSome o (λ (f : Written T). P × (f ≡ whole value))) (sym is)
        (let g = subst (λ (o : Option (Written T)). IfSome o (λ (f : Written T). P × (f.tables ≡ value))) is h in
        (g.0, ap (λ (t : T). whole t) g.1))

-- where newer tables are, all that is older lies before the front
pub above : {T C : Type 0} (next : T → C → T) (d : ℕ) (w : World T C) (k : Kept next d w) (n newer : ℕ) → HasNewer w n newer
    → (other : Kept next d w) × (n < length other.chained.front)
above {T} {C} next d w k n newer has = by (cases_lt (length k.chained.front) newer)
  where
    by : (length k.chained.front < newer) ⊎ (newer ≤ length k.chained.front)
        → (other : Kept next d w) × (n < length other.chained.front)
    by (inr low) = (k, (let h : n < newer = has.0 in omega arith))
    by (inl far) =
        let stands : MayStand (w.tables newer) (Some (whole has.1.0)) =
        inl (sym (ap (λ (p : Place (Written T)). p.now) has.1.1)) in
        let at = k.chained.newer newer far (Some (whole has.1.0)) stands in
        moved (reroot next d w k.chained newer (split-at (length k.chained.front) k.chained.closed newer at.0)) at.1
      where
        moved : Rerooted next d w k.chained newer → whole has.1.0 ≡ whole (tables_after next w.first (take newer w.log))
            → (other : Kept next d w) × (n < length other.chained.front)
        moved r value = (
          record {
            chained = r.to;
            root = ap (λ (m : ℕ). w.tables m) r.at ∙ has.1.1
                ∙ ap (λ (f : Written T). sure (Some f)) (value ∙ ap (λ l. whole (tables_after next w.first l)) (sym r.front));
            old = subst (λ (e : ℕ). Old next w e) (sym r.ends) k.old;
          },
          (let h : n < newer = has.0 in let e : length r.to.front ≡ newer = r.at in omega arith),
        )

pub drop_tables_keeps : {T C : Type 0} (next : T → C → T) (d : ℕ) (w : World T C) (k : Kept next d w) (number : ℕ)
    → number < length k.chained.front → Kept next d (record w { tables = changed_at number (renamed None) w.tables })
drop_tables_keeps {T} {C} next d w k number low =
    with_tables next d w k (changed_at number (renamed None) w.tables)
    (changed-other number (renamed None) w.tables (length k.chained.front) (λ e. omega arith) ∙ k.root)
    (changed-each (NewerTables next w.first w.log (length k.chained.front) k.chained.closed) number
    (renamed None) w.tables (λ far. absurd (omega arith)) k.chained.newer)
    (changed-each (OldTables next w.first w.log (last_at k.chained)) number (renamed None) w.tables
    (renamed-each (λ (o : Option (Written T)). IfSome o (AreOldTables next w.first w.log (last_at k.chained) number)) None
    (w.tables number) tt (k.old.tables number)) k.old.tables)

pub drop_segment_keeps : {T C : Type 0} (next : T → C → T) (d : ℕ) (w : World T C) (k : Kept next d w) (number : ℕ)
    → number < length k.chained.front → Kept next d (record w { segments = changed_at number (renamed None) w.segments })
drop_segment_keeps {T} {C} next d w k number low =
    with_segments next d w k (changed_at number (renamed None) w.segments)
    (sure-apart w.segments (changed_at number (renamed None) w.segments) (length k.chained.front) k.chained.closed
    k.chained.last (λ n b. changed-other number (renamed None) w.segments n
    (λ e. (let h : length k.chained.front ≤ n = begin-after (length k.chained.front) k.chained.closed n b in omega arith)))
    k.chained.chain)
    (changed-each (OtherSegment (length k.chained.front) k.chained.closed) number (renamed None) w.segments
    (λ far. absurd (omega arith)) k.chained.others)
    (changed-each (OldSegment w.log (last_at k.chained)) number (renamed None) w.segments
    (renamed-each (IsOldSegment w.log (last_at k.chained) number) None (w.segments number) (inr tt)
    (k.old.segments number)) k.old.segments)

-- the server has ended
pub stop_keeps : {T C : Type 0} (next : T → C → T) (d : ℕ) (w : World T C) → Kept next d w → Kept next d (record w { active = None })
stop_keeps next d w k = record {
  chained = record {
    front = k.chained.front;
    closed = k.chained.closed;
    last = k.chained.last;
    rest = k.chained.rest;
    log = k.chained.log;
    synced = k.chained.synced;
    told = k.chained.told;
    durable = k.chained.durable;
    chain = k.chained.chain;
    newer = k.chained.newer;
    others = k.chained.others;
    written = k.chained.written;
    active = tt;
  };
  root = k.root;
  old = record { tables = k.old.tables; segments = k.old.segments; written = k.old.written };
}
