-- What every world keeps that steps lead to.
use Rattle.std.proofs.Common.{◌≡◌, ◌⊎◌, ℕ, ◌+◌, ◌<◌, ◌≤◌, List, [], ◌∷◌, ◌++◌, length, take, drop, sym, ap, ◌∙◌}
use Rattle.std.proofs.Common.{inl, inr, arith, append_assoc, length-append, Option, Some, None, IfSome, subst}
use Rattle.std.proofs.Common.{◌-◌, length-drop, length-take-le, take-take, take_all}
use Rattle.std.proofs.lemmas.Bool.{cases_lt}
use Rattle.std.proofs.lemmas.List.{take-append-le, drop-append-le}
use Rattle.std.proofs.Math.Seq.{take-append_seam}
use Rattle.store_core.specs.Places.{Place, sure, MayStand, Segment, Written, whole}
use Rattle.store_core.specs.Found.{joined, end_of, IsBegin, tables_after}
use Rattle.store_core.specs.World.{World, IsActive}
use Rattle.store_core.proofs.ListLaws.{joined-append, joined-split, end-split, end-is, end-after, begin-before}
use Rattle.store_core.proofs.ListLaws.{tail-begins, take-none, Split}
use Rattle.store_core.proofs.ChainLaws.{IsSureChain, sure-end, sure-tail}

-- whatever file may stand there, it has no commits
abbrev pub NoCommits : {C : Type 0} → Place (Segment C) → Type 0
NoCommits {C} place = (file : Option (Segment C)) → MayStand place file → IfSome file (λ (s : Segment C). s.commits ≡ [])

-- a segment begins there, and these are the tables after so many commits of the log, on the disk
abbrev pub IsTablesAt : {T C : Type 0} → (T → C → T) → T → List C → ℕ → List (List C) → ℕ → Written T → Type 0
IsTablesAt next first log at closed n file =
    IsBegin at closed n × (file ≡ whole (tables_after next first (take n log)))

-- the same, on the disk or not
abbrev pub IsWrittenAt : {T C : Type 0} → (T → C → T) → T → List C → ℕ → List (List C) → ℕ → Written T → Type 0
IsWrittenAt next first log at closed n file =
    IsBegin at closed n × (file.tables ≡ tables_after next first (take n log))

-- a segment has no commits, or those of the log behind its number, and ends no later than there
abbrev pub IsPart : {C : Type 0} → List C → ℕ → ℕ → List C → Type 0
IsPart log end n commits =
    (commits ≡ []) ⊎ ((n + length commits ≤ end) × (commits ≡ take (length commits) (drop n log)))

-- these are the tables after so many commits of the log, on the disk, and no later than there
abbrev pub AreOldTables : {T C : Type 0} → (T → C → T) → T → List C → ℕ → ℕ → Written T → Type 0
AreOldTables next first log end n file = (n ≤ end) × (file ≡ whole (tables_after next first (take n log)))

-- the same, on the disk or not
abbrev pub AreOldWritten : {T C : Type 0} → (T → C → T) → T → List C → ℕ → ℕ → Written T → Type 0
AreOldWritten next first log end n file = (n ≤ end) × (file.tables ≡ tables_after next first (take n log))

-- it is the last segment, or has its part of the log
abbrev pub IsOldSegment : {C : Type 0} → List C → ℕ → ℕ → Option (Segment C) → Type 0
IsOldSegment {C} log end n file = (n ≡ end) ⊎ IfSome file (λ (s : Segment C). IsPart log end n s.commits)

-- what is known of what stands under a name behind the front, or is written for it
abbrev pub NewerTables : {T C : Type 0} → (T → C → T) → T → List C → ℕ → List (List C) → ℕ → Place (Written T) → Type 0
NewerTables {T} next first log at closed n place = at < n → (file : Option (Written T)) → MayStand place file
    → IfSome file (IsTablesAt next first log at closed n)

abbrev pub OtherSegment : {C : Type 0} → ℕ → List (List C) → ℕ → Place (Segment C) → Type 0
OtherSegment at closed n place = at < n → IsBegin at closed n ⊎ NoCommits place

abbrev pub NewerWritten : {T C : Type 0} → (T → C → T) → T → List C → ℕ → List (List C) → ℕ → Option (Written T) → Type 0
NewerWritten next first log at closed n file = at < n → IfSome file (IsWrittenAt next first log at closed n)

-- and of what stands under any name
abbrev pub OldTables : {T C : Type 0} → (T → C → T) → T → List C → ℕ → ℕ → Place (Written T) → Type 0
OldTables {T} next first log end n place = (file : Option (Written T)) → MayStand place file
    → IfSome file (AreOldTables next first log end n)

abbrev pub OldSegment : {C : Type 0} → List C → ℕ → ℕ → Place (Segment C) → Type 0
OldSegment {C} log end n place = (file : Option (Segment C)) → MayStand place file → IsOldSegment log end n file

abbrev pub OldWritten : {T C : Type 0} → (T → C → T) → T → List C → ℕ → ℕ → Option (Written T) → Type 0
OldWritten next first log end n file = IfSome file (AreOldWritten next first log end n)

-- the same of what a crash leaves
abbrev pub AreLeftTables : {T C : Type 0} → (T → C → T) → T → List C → ℕ → ℕ → T → Type 0
AreLeftTables next first log end n tables = (n ≤ end) × (tables ≡ tables_after next first (take n log))

abbrev pub IsLeftSegment : {C : Type 0} → List C → ℕ → ℕ → Option (List C) → Type 0
IsLeftSegment log end n left = (n ≡ end) ⊎ IfSome left (IsPart log end n)

-- whatever stands anywhere, the last segment apart, is of the log, and no later than the last segment begins
pub record Old {T C : Type 0} (next : T → C → T) (w : World T C) (end : ℕ) : Type 0 where
  pub tables : (n : ℕ) → OldTables next w.first w.log end n (w.tables n)
  pub segments : (n : ℕ) → OldSegment w.log end n (w.segments n)
  pub written : (n : ℕ) → OldWritten next w.first w.log end n (w.written n)

-- the log is a front, what the segments behind it have, and what memory alone has; and nothing else behind the front
-- counts
pub record Chained {T C : Type 0} (next : T → C → T) (d : ℕ) (w : World T C) : Type 0 where
  pub front : List C
  pub closed : List (List C)
  pub last : Segment C
  pub rest : List C
  pub log : w.log ≡ front ++ joined closed (last.commits ++ rest)
  pub synced : last.synced ≤ length last.commits
  pub told : w.told ≤ end_of (length front) closed + last.synced
  pub durable : d ≤ end_of (length front) closed + last.synced
  pub chain : IsSureChain w.segments (length front) closed last
  pub newer : (n : ℕ) → NewerTables next w.first w.log (length front) closed n (w.tables n)
  pub others : (n : ℕ) → OtherSegment (length front) closed n (w.segments n)
  pub written : (n : ℕ) → NewerWritten next w.first w.log (length front) closed n (w.written n)
  pub active : IfSome w.active (λ at. at ≡ end_of (length front) closed)

-- where the last segment begins
abbrev pub last_at : {T C : Type 0} {next : T → C → T} {d : ℕ} {w : World T C} → Chained next d w → ℕ
last_at c = end_of (length c.front) c.closed

-- and the tables after the front are there
pub record Kept {T C : Type 0} (next : T → C → T) (d : ℕ) (w : World T C) : Type 0 where
  pub chained : Chained next d w
  pub root : w.tables (length chained.front) ≡ sure (Some (whole (tables_after next w.first chained.front)))
  pub old : Old next w (last_at chained)

-- another number of commits that are on the disk
pub raised : {T C : Type 0} (next : T → C → T) (d : ℕ) (w : World T C) (k : Kept next d w) (n : ℕ)
    → n ≤ last_at k.chained + k.chained.last.synced → Kept next n w
raised next d w k n few = record {
  chained = record {
    front = k.chained.front;
    closed = k.chained.closed;
    last = k.chained.last;
    rest = k.chained.rest;
    log = k.chained.log;
    synced = k.chained.synced;
    told = k.chained.told;
    durable = few;
    chain = k.chained.chain;
    newer = k.chained.newer;
    others = k.chained.others;
    written = k.chained.written;
    active = k.chained.active;
  };
  root = k.root;
  old = k.old;
}

module _ {T C : Type 0} (next : T → C → T) (d : ℕ) (w : World T C) (c : Chained next d w) where
  pub log-length : length w.log ≡ end_of (length c.front) c.closed + (length c.last.commits + length c.rest)
  log-length =
      let all : length w.log ≡ length (c.front ++ joined c.closed (c.last.commits ++ c.rest)) = ap length c.log in
      let ends : length c.front + length (joined c.closed (c.last.commits ++ c.rest))
      ≡ end_of (length c.front) c.closed + length (c.last.commits ++ c.rest) =
      end-is (length c.front) c.closed (c.last.commits ++ c.rest) in
      omega (
        arith,
        all,
        ends,
        length-append c.front (joined c.closed (c.last.commits ++ c.rest)),
        length-append c.last.commits c.rest,
      )

  pub log-at-end : w.log ≡ (c.front ++ joined c.closed []) ++ (c.last.commits ++ c.rest)
  log-at-end =
      c.log ∙ ap (λ l. c.front ++ l) (joined-append c.closed [] (c.last.commits ++ c.rest))
      ∙ sym (append_assoc c.front (joined c.closed []) (c.last.commits ++ c.rest))

  pub front-length : length (c.front ++ joined c.closed []) ≡ end_of (length c.front) c.closed
  front-length =
      let ends : length c.front + length (joined c.closed []) ≡ end_of (length c.front) c.closed + 0 =
      end-is (length c.front) c.closed [] in
      omega (arith, ends, length-append c.front (joined c.closed []))

  pub active-is : (at : ℕ) → w.active ≡ Some at → at ≡ end_of (length c.front) c.closed
  active-is at e = subst (λ (o : Option ℕ). IfSome o (λ at. at ≡ end_of (length c.front) c.closed)) e c.active

  pub segment-is : (at : ℕ) (segment : Segment C) → IsActive w at segment → segment ≡ c.last
  segment-is at segment is =
      let place : w.segments (end_of (length c.front) c.closed) ≡ sure (Some c.last) =
      sure-end w.segments (length c.front) c.closed c.last c.chain in
      let here : (w.segments at).now ≡ Some c.last =
      ap (λ (n : ℕ). (w.segments n).now) (active-is at is.0) ∙ ap (λ (p : Place (Segment C)). p.now) place in
      let both : Some segment ≡ Some c.last = sym is.1 ∙ here in
      cc

  pub begin-inside : (n : ℕ) → IsBegin (length c.front) c.closed n → n ≤ length w.log
  begin-inside n b =
      let h : n ≤ end_of (length c.front) c.closed = begin-before (length c.front) c.closed n b in
      let l = log-length in
      omega (arith, l)

  pub stable : (n : ℕ) → IsBegin (length c.front) c.closed n → (more : List C)
      → take n (w.log ++ more) ≡ take n w.log
  stable n b more = take-append-le n w.log more (begin-inside n b)

-- a part inside a list is one of the list with more behind it
pub part-equation : {C : Type 0} (xs more : List C) (n count : ℕ) → n + count ≤ length xs
    → take count (drop n (xs ++ more)) ≡ take count (drop n xs)
part-equation xs more n count fits =
    ap (take count) (drop-append-le n xs more (omega arith))
    ∙ take-append-le count (drop n xs) more
    (let l : length (drop n xs) ≡ length xs - n = length-drop n xs in omega arith)

pub part-more : {C : Type 0} (log more : List C) (end n : ℕ) (commits : List C) → end ≤ length log
    → IsPart log end n commits → IsPart (log ++ more) end n commits
part-more log more end n commits inside (inl none) = inl none
part-more log more end n commits inside (inr is) =
    let fits : n + length commits ≤ end = is.0 in
    inr (is.0, is.1 ∙ sym (part-equation log more n (length commits) (omega arith)))

pub part-less : {C : Type 0} (log more : List C) (end n : ℕ) (commits : List C) → end ≤ length log
    → IsPart (log ++ more) end n commits → IsPart log end n commits
part-less log more end n commits inside (inl none) = inl none
part-less log more end n commits inside (inr is) =
    let fits : n + length commits ≤ end = is.0 in
    inr (is.0, is.1 ∙ part-equation log more n (length commits) (omega arith))

pub part-later : {C : Type 0} (log : List C) (end later n : ℕ) (commits : List C) → end ≤ later
    → IsPart log end n commits → IsPart log later n commits
part-later log end later n commits grows (inl none) = inl none
part-later log end later n commits grows (inr is) =
    let fits : n + length commits ≤ end = is.0 in inr (omega arith, is.1)

-- the first commits of a part are a part
pub part-front : {C : Type 0} (log : List C) (end n count : ℕ) (commits : List C) → IsPart log end n commits
    → IsPart log end n (take count commits)
part-front log end n count commits (inl none) = inl (take-none count commits none)
part-front {C} log end n count commits (inr is) = by (cases_lt count (length commits))
  where
    by : (count < length commits) ⊎ (length commits ≤ count) → IsPart log end n (take count commits)
    by (inl few) =
        let l : length (take count commits) ≡ count = length-take-le count commits (omega arith) in
        let fits : n + length commits ≤ end = is.0 in
        inr (
          omega arith,
          ap (take count) is.1 ∙ take-take count (length commits) (drop n log) (omega arith)
              ∙ ap (λ (m : ℕ). take m (drop n log)) (sym l),
        )
    by (inr all) = subst (λ (l : List C). IsPart log end n l) (sym (take_all count commits all)) (inr is)

-- it may be looked at from a later segment on
pub record Rerooted {T C : Type 0} (next : T → C → T) (d : ℕ) (w : World T C) (c : Chained next d w) (n : ℕ) : Type 0 where
  pub to : Chained next d w
  pub at : length to.front ≡ n
  pub back : (m : ℕ) → IsBegin (length to.front) to.closed m → IsBegin (length c.front) c.closed m
  pub forth : (m : ℕ) → length to.front < m → IsBegin (length c.front) c.closed m
      → IsBegin (length to.front) to.closed m
  pub front : to.front ≡ take n w.log
  pub ends : end_of (length to.front) to.closed ≡ end_of (length c.front) c.closed

split-begins : {C : Type 0} (at : ℕ) (before parts : List (List C)) (m : ℕ) → IsBegin (end_of at before) parts m
    → IsBegin at (before ++ parts) m
split-begins at [] parts m b = b
split-begins at (p ∷ ps) parts m b = inr (split-begins (at + length p) ps parts m b)

-- the front with the segments before
abbrev pub longer : {C : Type 0} → List C → List (List C) → List C
longer front before = front ++ joined before []

pub reroot : {T C : Type 0} (next : T → C → T) (d : ℕ) (w : World T C) (c : Chained next d w) (n : ℕ)
    → Split (length c.front) c.closed n → Rerooted next d w c n
reroot {T} {C} next d w c n s = record {
  to = record {
    front = longer c.front s.before;
    closed = s.tail;
    last = c.last;
    rest = c.rest;
    log = log;
    synced = c.synced;
    told = subst (λ (e : ℕ). w.told ≤ e + c.last.synced) ends c.told;
    durable = subst (λ (e : ℕ). d ≤ e + c.last.synced) ends c.durable;
    chain =
        subst (λ (a : ℕ). IsSureChain w.segments a s.tail c.last) (sym long)
        (sure-tail w.segments (length c.front) s.before s.tail c.last
        (subst (λ (ps : List (List C)). IsSureChain w.segments (length c.front) ps c.last) s.are c.chain));
    newer = λ m far file stands.
        keep-tables file m far (c.newer m (farther m far) file stands);
    others = λ m far. elim (c.others m (farther m far)) [ inl b ↦ inl (tail_of m far b) | inr none ↦ inr none ];
    written = λ m far. keep-written (w.written m) m far (c.written m (farther m far));
    active = active w.active c.active;
  };
  at = long ∙ sym s.begins;
  back = back;
  forth = tail_of;
  front = is_front;
  ends = sym ends;
}
  where
    long : length (longer c.front s.before) ≡ end_of (length c.front) s.before
    long =
        let ends : length c.front + length (joined s.before []) ≡ end_of (length c.front) s.before + 0 =
        end-is (length c.front) s.before [] in
        omega (arith, ends, length-append c.front (joined s.before []))

    tail_of : (m : ℕ) → length (longer c.front s.before) < m → IsBegin (length c.front) c.closed m → IsBegin (length (longer c.front s.before)) s.tail m
    tail_of m far b =
        subst (λ (a : ℕ). IsBegin a s.tail m) (sym long)
        (tail-begins (length c.front) s.before s.tail m
        (subst (λ (ps : List (List C)). IsBegin (length c.front) ps m) s.are b) (omega (arith, long, far)))

    back : (m : ℕ) → IsBegin (length (longer c.front s.before)) s.tail m → IsBegin (length c.front) c.closed m
    back m b =
        subst (λ (ps : List (List C)). IsBegin (length c.front) ps m) (sym s.are)
        (split-begins (length c.front) s.before s.tail m (subst (λ (a : ℕ). IsBegin a s.tail m) long b))

    farther : (m : ℕ) → length (longer c.front s.before) < m → length c.front < m
    farther m far =
        let h : length c.front ≤ end_of (length c.front) s.before = end-after (length c.front) s.before in
        omega (arith, long, far)

    ends : end_of (length c.front) c.closed ≡ end_of (length (longer c.front s.before)) s.tail
    ends =
        ap (end_of (length c.front)) s.are ∙ end-split (length c.front) s.before s.tail
        ∙ ap (λ (a : ℕ). end_of a s.tail) (sym long)

    log : w.log ≡ (longer c.front s.before) ++ joined s.tail (c.last.commits ++ c.rest)
    log =
        c.log ∙ ap (λ l. c.front ++ l) (ap (λ (ps : List (List C)). joined ps (c.last.commits ++ c.rest)) s.are
        ∙ joined-split s.before s.tail (c.last.commits ++ c.rest)
        ∙ joined-append s.before [] (joined s.tail (c.last.commits ++ c.rest)))
        ∙ sym (append_assoc c.front (joined s.before []) (joined s.tail (c.last.commits ++ c.rest)))

    is_front : longer c.front s.before ≡ take n w.log
    is_front =
        sym (ap (take n) log ∙ ap (λ (m : ℕ). take m ((longer c.front s.before) ++ joined s.tail (c.last.commits ++ c.rest)))
        (s.begins ∙ sym long) ∙ take-append_seam (longer c.front s.before) (joined s.tail (c.last.commits ++ c.rest)))

    keep-tables : (file : Option (Written T)) (m : ℕ) → length (longer c.front s.before) < m
        → IfSome file (IsTablesAt next w.first w.log (length c.front) c.closed m)
        → IfSome file (IsTablesAt next w.first w.log (length (longer c.front s.before)) s.tail m)
    keep-tables None m far h = tt
    keep-tables (Some f) m far h = (tail_of m far h.0, h.1)

    keep-written : (file : Option (Written T)) (m : ℕ) → length (longer c.front s.before) < m
        → IfSome file (IsWrittenAt next w.first w.log (length c.front) c.closed m)
        → IfSome file (IsWrittenAt next w.first w.log (length (longer c.front s.before)) s.tail m)
    keep-written None m far h = tt
    keep-written (Some f) m far h = (tail_of m far h.0, h.1)

    active : (o : Option ℕ) → IfSome o (λ at. at ≡ end_of (length c.front) c.closed)
        → IfSome o (λ at. at ≡ end_of (length (longer c.front s.before)) s.tail)
    active None h = tt
    active (Some at) h = h ∙ ends
