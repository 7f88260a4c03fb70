-- A crash and a start keep what every world keeps; a start finds one thing only.
use Rattle.std.proofs.Common.{◌≡◌, ◌⊎◌, ℕ, ◌+◌, ◌<◌, ◌≤◌, List, [], ◌∷◌, ◌++◌, length, take}
use Rattle.std.proofs.Common.{refl, sym, ap, ◌∙◌, inl, inr, arith, append-nil, Option, Some, None, IfSome}
use Rattle.std.proofs.Common.{subst, option_map, take_all}
use Rattle.std.proofs.lemmas.Bool.{cases_eq, cases_lt}
use Rattle.std.proofs.lemmas.List.{take-append-le}
use Rattle.store_core.specs.Places.{Place, sure, MayStand, Segment, settled, SegmentLeft, Written, whole, TablesLeft}
use Rattle.store_core.specs.Found.{Store, Found, joined, end_of, IsBegin, IsLast, IsChain, Finds, tables_after}
use Rattle.store_core.specs.World.{World, Start, MayLeave, reads, on_disk, after, changed_at}
use Rattle.store_core.specs.Runs.{OneStart}
use Rattle.store_core.proofs.ListLaws.{begin-before, end-split, first-begins, if_some, no_some, split-at}
use Rattle.store_core.proofs.ChainLaws.{changed-each, changed-other, changed-same, stands-sure, sure-chain}
use Rattle.store_core.proofs.StepLaws.{with_tables}
use Rattle.store_core.proofs.Keeping.{NewerTables, OldTables, Old, AreOldTables, AreOldWritten, IsOldSegment, IsLeftSegment, IsPart, part-less, last_at, Chained, Kept, NoCommits, IsTablesAt, IsWrittenAt}
use Rattle.store_core.proofs.Settling.{Settled, found_of, found_end, settle, settled-log, settled-length, settled-taken}

chain-there : {C : Type 0} (segments : ℕ → Option (List C)) (at : ℕ) (parts : List (List C)) (last : List C)
    → IsChain segments at parts last → segments at ≡ None → ⊥
chain-there segments at [] last h none = no_some (segments at) last none h.0
chain-there segments at (p ∷ ps) last h none = no_some (segments at) p none h.0

-- nothing follows the last segment, where it has commits
last-ends : {C : Type 0} (segments : ℕ → Option (List C)) (at : ℕ) (last : List C) → IsLast segments at last
    → 0 < length last → segments (at + length last) ≡ None
last-ends segments at [] ends some = absurd (omega arith)
last-ends segments at (c ∷ cs) ends some = ends

same-read : {C : Type 0} (o : Option (List C)) (a b : List C) → o ≡ Some a → o ≡ Some b → a ≡ b
same-read o a b e f = cc

pub one-chain : {C : Type 0} (segments : ℕ → Option (List C)) (at : ℕ) (ps qs : List (List C)) (l m : List C)
    → IsChain segments at ps l → IsChain segments at qs m → (ps ≡ qs) × (l ≡ m)
one-chain segments at [] [] l m h g = (refl, same-read (segments at) l m h.0 g.0)
one-chain {C} segments at [] (q ∷ qs) l m h g =
    let same : l ≡ q = same-read (segments at) l q h.0 g.0 in
    let some : 0 < length l = subst (λ (x : List C). 0 < length x) (sym same) g.1 in
    let none : segments (at + length q) ≡ None =
    subst (λ (x : List C). segments (at + length x) ≡ None) same (last-ends segments at l h.1 some) in
    absurd (chain-there segments (at + length q) qs m g.2 none)
one-chain {C} segments at (p ∷ ps) [] l m h g =
    let same : m ≡ p = same-read (segments at) m p g.0 h.0 in
    let some : 0 < length m = subst (λ (x : List C). 0 < length x) (sym same) h.1 in
    let none : segments (at + length p) ≡ None =
    subst (λ (x : List C). segments (at + length x) ≡ None) same (last-ends segments at m g.1 some) in
    absurd (chain-there segments (at + length p) ps l h.2 none)
one-chain {C} segments at (p ∷ ps) (q ∷ qs) l m h g =
    let same : p ≡ q = same-read (segments at) p q h.0 g.0 in
    let rest : (ps ≡ qs) × (l ≡ m) =
    one-chain segments (at + length q) ps qs l m
    (subst (λ (x : List C). IsChain segments (at + length x) ps l) same h.2) g.2 in
    (ap (λ (x : List C). x ∷ ps) same ∙ ap (λ (xs : List (List C)). q ∷ xs) rest.0, rest.1)

pub one_start : {T C : Type 0} (store : Store T C) → OneStart store
one_start {T} {C} store found other a b = by (cases_lt found.after other.after) (cases_lt other.after found.after)
  where
    same : found.after ≡ other.after → found ≡ other
    same at =
        let there : Some found.tables ≡ Some other.tables =
        sym a.newest.are ∙ ap store.tables at ∙ b.newest.are in
        let tables : found.tables ≡ other.tables = cc in
        let chains : (found.closed ≡ other.closed) × (found.last ≡ other.last) =
        one-chain store.segments other.after found.closed other.closed found.last other.last
        (subst (λ (n : ℕ). IsChain store.segments n found.closed found.last) at a.chain) b.chain in
        ap (λ (n : ℕ). record { after = n; tables = found.tables; closed = found.closed; last = found.last }) at
        ∙ ap (λ (t : T). record { after = other.after; tables = t; closed = found.closed; last = found.last }) tables
        ∙ ap (λ (ps : List (List C)). record { after = other.after; tables = other.tables; closed = ps; last = found.last }) chains.0
        ∙ ap (λ (l : List C). record { after = other.after; tables = other.tables; closed = other.closed; last = l }) chains.1

    by : (found.after < other.after) ⊎ (other.after ≤ found.after) → (other.after < found.after) ⊎ (found.after ≤ other.after)
        → found ≡ other
    by (inl less) right =
        absurd (no_some (store.tables other.after) other.tables (a.newest.none_newer other.after less) b.newest.are)
    by (inr left) (inl more) =
        absurd (no_some (store.tables found.after) found.tables (b.newest.none_newer found.after more) a.newest.are)
    by (inr left) (inr right) = same (omega arith)

settled-empty : {C : Type 0} (o : Option (List C)) → IfSome o (λ commits. commits ≡ [])
    → IfSome (option_map settled o) (λ (s : Segment C). s.commits ≡ [])
settled-empty None h = tt
settled-empty (Some commits) h = h

whole-tables : {T : Type 0} (n end : ℕ) (value : T) (o : Option T) → IfSome o (λ (t : T). (n ≤ end) × (t ≡ value))
    → IfSome (option_map whole o) (λ (f : Written T). (n ≤ end) × (f ≡ whole value))
whole-tables n end value None h = tt
whole-tables {T} n end value (Some t) h = (h.0, ap (λ (u : T). whole u) h.1)

settled-part : {C : Type 0} (log : List C) (end n : ℕ) (o : Option (List C))
    → IfSome o (λ (cs : List C). IsPart log end n cs)
    → IfSome (option_map settled o) (λ (g : Segment C). IsPart log end n g.commits)
settled-part log end n None h = tt
settled-part log end n (Some cs) h = h

-- the machine stops, and this is left
module _ {T C : Type 0} (next : T → C → T) (d : ℕ) (w : World T C) (c : Chained next d w) (left : Store T C)
    (s : Settled next d w c left) where
  no-newer : (n : ℕ) → length s.front < n → (file : Option (Written T))
      → MayStand (sure (option_map whole (left.tables n))) file
      → (P : Written T → Type 0) → IfSome file P
  no-newer n far file stands P =
      let is : file ≡ option_map whole (left.tables n) =
      stands-sure (sure (option_map whole (left.tables n))) (option_map whole (left.tables n)) file refl stands in
      let none : file ≡ None = is ∙ ap (option_map whole) (s.finds.newest.none_newer n far) in
      subst (λ (o : Option (Written T)). IfSome o P) (sym none) tt

  no-others : (n : ℕ) → length s.front < n
      → IsBegin (length s.front) s.closed n ⊎ NoCommits (sure (option_map settled (left.segments n)))
  no-others n far = elim (s.finds.no_gap n far) [
    | inl b ↦ inl b
    | inr none ↦
        inr (λ file stands. subst (λ (o : Option (Segment C)). IfSome o (λ (s : Segment C). s.commits ≡ []))
        (sym (stands-sure (sure (option_map settled (left.segments n))) (option_map settled (left.segments n)) file refl stands))
        (settled-empty (left.segments n) none))
  ]

  crash-tables : (n : ℕ) (file : Option (Written T)) → MayStand (sure (option_map whole (left.tables n))) file
      → IfSome file (AreOldTables next w.first w.log (found_end s) n)
  crash-tables n file stands =
      subst (λ (o : Option (Written T)). IfSome o (AreOldTables next w.first w.log (found_end s) n))
      (sym (stands-sure (sure (option_map whole (left.tables n))) (option_map whole (left.tables n)) file refl stands))
      (whole-tables n (found_end s) (tables_after next w.first (take n w.log)) (left.tables n) (s.tables n))

  crash-part : (log : List C) (n : ℕ) (file : Option (Segment C))
      → MayStand (sure (option_map settled (left.segments n))) file
      → IsLeftSegment log (found_end s) n (left.segments n) → IsOldSegment log (found_end s) n file
  crash-part log n file stands (inl e) = inl e
  crash-part log n file stands (inr h) =
      inr (subst (λ (o : Option (Segment C)). IfSome o
      (λ (g : Segment C). IsPart log (found_end s) n g.commits))
      (sym (stands-sure (sure (option_map settled (left.segments n))) (option_map settled (left.segments n)) file refl stands))
      (settled-part log (found_end s) n (left.segments n) h))

  pub crash_keeps : Kept next d (record (on_disk w left) { active = None; written = λ _. None })
  crash_keeps = record {
    chained = record {
      front = s.front;
      closed = s.closed;
      last = settled s.last;
      rest = s.rest;
      log = s.log;
      synced = omega arith;
      told = s.told;
      durable = s.durable;
      chain = sure-chain left.segments (length s.front) s.closed s.last s.finds.chain;
      newer = λ n far file stands. no-newer n far file stands
          (IsTablesAt next w.first w.log (length s.front) s.closed n);
      others = no-others;
      written = λ n far. tt;
      active = tt;
    };
    root = ap (λ (o : Option T). sure (option_map whole o)) s.finds.newest.are;
    old = record {
      tables = λ n file stands. crash-tables n file stands;
      segments = λ n file stands. crash-part w.log n file stands (s.segments n);
      written = λ n. tt;
    };
  }

  -- what is cut off is behind the segments that are found
  pub settled-low : (n : ℕ) → n ≤ found_end s → take n w.log ≡ take n (take (found_end s + length s.last) w.log)
  settled-low n low =
      let long = settled-length next d w c left s in
      ap (take n) (settled-log next d w c left s)
      ∙ take-append-le n (s.front ++ joined s.closed s.last) s.rest (omega (arith, long))
      ∙ ap (take n) (sym (settled-taken next d w c left s))

  -- a server starts with it; what is being written goes on
  pub start_keeps : ((n : ℕ) → length c.front < n
      → IfSome (w.written n) (IsWrittenAt next w.first w.log (length c.front) c.closed n))
      → Old next w (last_at c)
      → Kept next d (record (on_disk w left) {
        active = Some (found_end s);
        log = take (found_end s + length s.last) w.log;
      })
  start_keeps written old = record {
    chained = record {
      front = s.front;
      closed = s.closed;
      last = settled s.last;
      rest = [];
      log =
          settled-taken next d w c left s
          ∙ ap (λ (l : List C). s.front ++ joined s.closed l) (sym (append-nil s.last));
      synced = omega arith;
      told = s.told;
      durable = s.durable;
      chain = sure-chain left.segments (length s.front) s.closed s.last s.finds.chain;
      newer = λ n far file stands. no-newer n far file stands
          (IsTablesAt next w.first (take (found_end s + length s.last) w.log) (length s.front) s.closed n);
      others = no-others;
      written = λ n far. if_some (w.written n)
          (IsWrittenAt next w.first w.log (length c.front) c.closed n)
          (IsWrittenAt next w.first (take (found_end s + length s.last) w.log) (length s.front) s.closed n)
          (λ f h. (s.begins n far h.0, h.1 ∙ ap (tables_after next w.first) (same-front n (s.begins n far h.0))))
          (written n (s.higher n far));
      active = refl;
    };
    root = ap (λ (o : Option T). sure (option_map whole o)) s.finds.newest.are;
    old = record {
      tables = λ n file stands. if_some file (AreOldTables next w.first w.log (found_end s) n)
          (AreOldTables next w.first (take (found_end s + length s.last) w.log) (found_end s) n)
          (λ f h. (h.0, h.1 ∙ ap (λ l. whole (tables_after next w.first l)) (settled-low n h.0))) (crash-tables n file stands);
      segments = λ n file stands. crash-part (take (found_end s + length s.last) w.log) n file stands
          (cut-part n (s.segments n));
      written = λ n. if_some (w.written n) (AreOldWritten next w.first w.log (last_at c) n)
          (AreOldWritten next w.first (take (found_end s + length s.last) w.log) (found_end s) n)
          (λ f h. let low : n ≤ found_end s = (let g = s.grows in let l = h.0 in omega arith) in
          (low, h.1 ∙ ap (λ l. tables_after next w.first l) (settled-low n low))) (old.written n);
    };
  }
    where
      cut-part : (n : ℕ) → IsLeftSegment w.log (found_end s) n (left.segments n)
          → IsLeftSegment (take (found_end s + length s.last) w.log) (found_end s) n (left.segments n)
      cut-part n (inl e) = inl e
      cut-part n (inr h) =
          let long = settled-length next d w c left s in
          inr (if_some (left.segments n) (IsPart w.log (found_end s) n)
          (IsPart (take (found_end s + length s.last) w.log) (found_end s) n)
          (λ cs g. subst (λ (l : List C). IsPart l (found_end s) n cs) (sym (settled-taken next d w c left s))
          (part-less (s.front ++ joined s.closed s.last) s.rest (found_end s) n cs (omega (arith, long))
          (subst (λ (l : List C). IsPart l (found_end s) n cs) (settled-log next d w c left s) g))) h)

      same-front : (n : ℕ) → IsBegin (length s.front) s.closed n
          → take n w.log ≡ take n (take (found_end s + length s.last) w.log)
      same-front n b = settled-low n (begin-before (length s.front) s.closed n b)

-- a crash may leave the store as it reads
read-tables-left : {T : Type 0} (file : Option (Written T)) → TablesLeft file (option_map (λ f. f.tables) file)
read-tables-left None = refl
read-tables-left (Some f) = (f.tables, refl, λ e. refl)

read-segment-left : {C : Type 0} (file : Option (Segment C)) → SegmentLeft file (option_map (λ s. s.commits) file)
read-segment-left None = refl
read-segment-left (Some s) =
    (s.synced + length s.commits, omega arith, ap Some (sym (take_all (s.synced + length s.commits) s.commits (omega arith))))

pub may-read : {T C : Type 0} (w : World T C) → MayLeave w (reads w)
may-read w = record {
  tables = λ n. ((w.tables n).now, inl refl, read-tables-left (w.tables n).now);
  segments = λ n. ((w.segments n).now, inl refl, read-segment-left (w.segments n).now);
}

-- what a start finds is that, and nothing else
pub found-is : {T C : Type 0} (next : T → C → T) (d : ℕ) (w : World T C) (c : Chained next d w) (left : Store T C)
    (s : Settled next d w c left) (found : Found T C) → Finds left found → found ≡ found_of s
found-is next d w c left s found finds = one_start left found (found_of s) finds s.finds

chain-tail : {C : Type 0} (segments : ℕ → Option (List C)) (at : ℕ) (before parts : List (List C)) (last : List C)
    → IsChain segments at (before ++ parts) last → IsChain segments (end_of at before) parts last
chain-tail segments at [] parts last h = h
chain-tail segments at (p ∷ ps) parts last h = chain-tail segments (at + length p) ps parts last h.2

-- what is found from a later segment on ends where the whole chain does
one-end : {C : Type 0} (segments : ℕ → Option (List C)) (at n : ℕ) (parts closed : List (List C)) (last end : List C)
    → IsBegin at parts n → IsChain segments at parts last → IsChain segments n closed end
    → (end_of n closed ≡ end_of at parts) × (end ≡ last)
one-end {C} segments at n parts closed last end begins whole later =
    let s = split-at at parts n begins in
    let tail : IsChain segments n s.tail last =
    subst (λ (m : ℕ). IsChain segments m s.tail last) (sym s.begins)
    (chain-tail segments at s.before s.tail last
    (subst (λ (ps : List (List C)). IsChain segments at ps last) s.are whole)) in
    let same = one-chain segments n closed s.tail end last later tail in (
      ap (end_of n) same.0 ∙ ap (λ (m : ℕ). end_of m s.tail) s.begins ∙ sym (end-split at s.before s.tail)
          ∙ ap (end_of at) (sym s.are),
      same.1,
    )

module _ {T C : Type 0} (next : T → C → T) (d : ℕ) (w : World T C) (k : Kept next d w) where
  -- its tables are those that stand there whatever crashes
  abbrev rooted : World T C
  rooted = record w {
    tables = changed_at (length k.chained.front) (λ _. w.tables (length k.chained.front)) (λ _. sure None);
  }

  none-stands : (file : Option (Written T)) (P : Written T → Type 0) → MayStand (sure None) file → IfSome file P
  none-stands file P stands =
      subst (λ (o : Option (Written T)). IfSome o P) (sym (stands-sure (sure None) None file refl stands)) tt

  rooted_keeps : Kept next d rooted
  rooted_keeps =
      with_tables next d w k rooted.tables
      (changed-same (length k.chained.front) (λ _. w.tables (length k.chained.front)) (λ _. sure None)
      (length k.chained.front) refl ∙ k.root)
      (changed-each (NewerTables next w.first w.log (length k.chained.front) k.chained.closed) (length k.chained.front)
      (λ _. w.tables (length k.chained.front)) (λ _. sure None) (λ far. absurd (omega arith))
      (λ n far file stands. none-stands file (IsTablesAt next w.first w.log (length k.chained.front) k.chained.closed n)
      stands))
      (changed-each (OldTables next w.first w.log (last_at k.chained)) (length k.chained.front)
      (λ _. w.tables (length k.chained.front)) (λ _. sure None) (k.old.tables (length k.chained.front))
      (λ n file stands. none-stands file (AreOldTables next w.first w.log (last_at k.chained) n) stands))

  -- so the tables that are found begin there
  rooted-front : (s : Settled next d rooted rooted_keeps.chained (reads rooted)) → length s.front ≡ length k.chained.front
  rooted-front s = by (cases_eq (length s.front) (length k.chained.front))
    where
      by : (length s.front ≡ length k.chained.front) ⊎ (length s.front ≡ length k.chained.front → ⊥)
          → length s.front ≡ length k.chained.front
      by (inl e) = e
      by (inr apart) =
          absurd (no_some ((reads rooted).tables (length s.front)) (tables_after next w.first s.front)
          (ap (λ (p : Place (Written T)). option_map (λ (f : Written T). f.tables) p.now)
          (changed-other (length k.chained.front) (λ _. w.tables (length k.chained.front)) (λ _. sure None)
          (length s.front) apart)) s.finds.newest.are)

  -- a server starts, and the names of tables stay as they are
  started-at : (s : Settled next d rooted rooted_keeps.chained (reads rooted))
      → Kept next d (record w {
        segments = λ n. sure (option_map settled ((reads w).segments n));
        active = Some (found_end s);
        log = take (found_end s + length s.last) w.log;
      })
  unfolding with_tables rooted_keeps start_keeps
  started-at s =
      with_tables next d
      (record (on_disk rooted (reads rooted)) {
        active = Some (found_end s);
        log = take (found_end s + length s.last) w.log;
      })
      (start_keeps next d rooted rooted_keeps.chained (reads rooted) s rooted_keeps.chained.written rooted_keeps.old)
      w.tables root
      (λ n far file stands. if_some file
      (IsTablesAt next w.first w.log (length k.chained.front) k.chained.closed n)
      (IsTablesAt next w.first (take (found_end s + length s.last) w.log) (length s.front) s.closed n)
      (λ f h. (
        s.begins n far h.0,
        h.1 ∙ ap (λ l. whole (tables_after next w.first l))
            (settled-low next d rooted rooted_keeps.chained (reads rooted) s n
            (begin-before (length s.front) s.closed n (s.begins n far h.0))),
      ))
      (k.chained.newer n (farther n far) file stands))
      (λ n file stands. if_some file (AreOldTables next w.first w.log (last_at k.chained) n)
      (AreOldTables next w.first (take (found_end s + length s.last) w.log) (found_end s) n)
      (λ f h. let low : n ≤ found_end s = (let g = s.grows in let l = h.0 in omega arith) in (
        low,
        h.1 ∙ ap (λ l. whole (tables_after next w.first l))
            (settled-low next d rooted rooted_keeps.chained (reads rooted) s n low),
      ))
      (k.old.tables n file stands))
    where
      farther : (n : ℕ) → length s.front < n → length k.chained.front < n
      farther n far = let e = rooted-front s in omega arith

      root : w.tables (length s.front) ≡ sure (Some (whole (tables_after next w.first s.front)))
      root =
          let same : Some (tables_after next w.first k.chained.front) ≡ Some (tables_after next w.first s.front) =
          sym (ap (λ (p : Place (Written T)). option_map (λ (f : Written T). f.tables) p.now)
          (changed-same (length k.chained.front) (λ _. w.tables (length k.chained.front)) (λ _. sure None)
          (length s.front) (rooted-front s) ∙ k.root)) ∙ s.finds.newest.are in
          ap w.tables (rooted-front s) ∙ k.root ∙ ap (λ (o : Option T). sure (option_map whole o)) same

  -- the tables that are found begin at a segment of that chain
  found-begins : (s : Settled next d rooted rooted_keeps.chained (reads rooted)) (found : Found T C) → Finds (reads w) found
      → IsBegin (length s.front) s.closed found.after
  unfolding with_tables rooted_keeps
  found-begins s found finds = by (cases_lt (length k.chained.front) found.after)
    where
      there : (now : Option (Written T)) → (w.tables found.after).now ≡ now
          → IfSome now (IsTablesAt next w.first w.log (length k.chained.front) k.chained.closed found.after)
          → IsBegin (length k.chained.front) k.chained.closed found.after
      there None e h =
          absurd (no_some ((reads w).tables found.after) found.tables
          (ap (option_map (λ (f : Written T). f.tables)) e) finds.newest.are)
      there (Some f) e h = h.0

      by : (length k.chained.front < found.after) ⊎ (found.after ≤ length k.chained.front)
          → IsBegin (length s.front) s.closed found.after
      by (inl far) =
          s.begins found.after (let e = rooted-front s in omega arith)
          (there (w.tables found.after).now refl (k.chained.newer found.after far (w.tables found.after).now (inl refl)))
      by (inr low) = subst (λ (m : ℕ). IsBegin (length s.front) s.closed m) same (first-begins (length s.front) s.closed)
        where
          newer : (found.after < length k.chained.front) ⊎ (length k.chained.front ≤ found.after)
              → length k.chained.front ≤ found.after
          newer (inr h) = h
          newer (inl less) =
              absurd (no_some ((reads w).tables (length k.chained.front)) (tables_after next w.first k.chained.front)
              (finds.newest.none_newer (length k.chained.front) less)
              (ap (λ (p : Place (Written T)). option_map (λ (f : Written T). f.tables) p.now) k.root))

          same : length s.front ≡ found.after
          same = let e = rooted-front s in let h = newer (cases_lt found.after (length k.chained.front)) in omega arith

-- a server starts with what it finds
pub started : {T C : Type 0} (next : T → C → T) (d : ℕ) (w : World T C) (k : Kept next d w) (found : Found T C)
    → Finds (reads w) found → Kept next d (after w (Start found))
started {T} {C} next d w k found finds =
    let s = settle next d (rooted next d w k) (rooted_keeps next d w k) (reads (rooted next d w k))
    (may-read (rooted next d w k)) in
    let same = one-end (reads w).segments (length s.front) found.after s.closed found.closed s.last found.last
    (found-begins next d w k s found finds) s.finds.chain finds.chain in
    subst (λ (l : List C). Kept next d (record w {
      segments = λ n. sure (option_map settled ((reads w).segments n));
      active = Some (end_of found.after found.closed);
      log = take (end_of found.after found.closed + length l) w.log;
    })) (sym same.1)
    (subst (λ (e : ℕ). Kept next d (record w {
      segments = λ n. sure (option_map settled ((reads w).segments n));
      active = Some e;
      log = take (e + length s.last) w.log;
    })) (sym same.0) (started-at next d w k s))
