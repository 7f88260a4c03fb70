-- Whatever a crash leaves, a start finds a beginning of the log.
use Rattle.std.proofs.Common.{◌≡◌, ◌⊎◌, ℕ, ◌+◌, ◌<◌, ◌≤◌, List, [], ◌∷◌, ◌++◌, length, take, drop}
use Rattle.std.proofs.Common.{refl, sym, ap, ◌∙◌, inl, inr, arith, append_assoc, length-append, length-take}
use Rattle.std.proofs.Common.{Option, Some, None, IfSome, subst}
use Rattle.std.proofs.lemmas.Bool.{cases_lt}
use Rattle.std.proofs.Math.Seq.{take-append_seam, drop-append_seam}
use Rattle.store_core.specs.Places.{MayStand, Segment, SegmentLeft, Written, whole}
use Rattle.store_core.specs.Places.{TablesLeft}
use Rattle.store_core.specs.Found.{Store, Found, joined, end_of, IsBegin, IsChain, Finds, IsBeginning, tables_after}
use Rattle.store_core.specs.World.{World, MayLeave}
use Rattle.store_core.proofs.ListLaws.{joined-append, end-is, end-after, begin-before, first-begins, Split, split-at}
use Rattle.store_core.proofs.ListLaws.{cut, no_some, end-begins}
use Rattle.store_core.proofs.ChainLaws.{stands-sure, left-empty, LeftChain, left-chain}
use Rattle.store_core.proofs.Keeping.{IsPart, IsOldSegment, AreLeftTables, IsLeftSegment, part-later, part-front, last_at, Chained, Kept, NoCommits, IsTablesAt, Rerooted, reroot}

-- the newest of the tables that are there where segments begin
pub record NewestIn {T C : Type 0} (tables : ℕ → Option T) (at : ℕ) (parts : List (List C)) : Type 0 where
  pub after : ℕ
  pub split : Split at parts after
  pub there : (t : T) × (tables after ≡ Some t)
  pub none : (n : ℕ) → after < n → IsBegin at parts n → tables n ≡ None

pub search-newest : {T C : Type 0} (tables : ℕ → Option T) (at : ℕ) (parts : List (List C))
    → NewestIn tables at parts ⊎ ((n : ℕ) → IsBegin at parts n → tables n ≡ None)
search-newest {T} {C} tables at [] = look (tables at) refl
  where
    look : (o : Option T) → tables at ≡ o
        → NewestIn {C = C} tables at [] ⊎ ((n : ℕ) → IsBegin {C = C} at [] n → tables n ≡ None)
    look None is = inr (λ n e. ap tables e ∙ is)
    look (Some t) is =
        inl (record {
          after = at;
          split = split-at at [] at refl;
          there = (t, is);
          none = λ n far e. absurd (omega (arith, e, far));
        })
search-newest {T} {C} tables at (p ∷ ps) = on (search-newest tables (at + length p) ps)
  where
    look : (o : Option T) → tables at ≡ o → ((n : ℕ) → IsBegin (at + length p) ps n → tables n ≡ None)
        → NewestIn tables at (p ∷ ps) ⊎ ((n : ℕ) → IsBegin at (p ∷ ps) n → tables n ≡ None)
    look None is none = inr (λ n b. elim b [ inl e ↦ ap tables e ∙ is | inr later ↦ none n later ])
    look (Some t) is none =
        inl (record {
          after = at;
          split = split-at at (p ∷ ps) at (inl refl);
          there = (t, is);
          none = λ n far b. elim b [ inl e ↦ absurd (omega (arith, e, far)) | inr later ↦ none n later ];
        })

    on : NewestIn tables (at + length p) ps ⊎ ((n : ℕ) → IsBegin (at + length p) ps n → tables n ≡ None)
        → NewestIn tables at (p ∷ ps) ⊎ ((n : ℕ) → IsBegin at (p ∷ ps) n → tables n ≡ None)
    on (inl r) =
        inl (record {
          after = r.after;
          split = record {
            before = p ∷ r.split.before;
            tail = r.split.tail;
            are = ap (λ l. p ∷ l) r.split.are;
            begins = r.split.begins;
          };
          there = r.there;
          none = λ n far b. elim b [
            | inl e ↦ absurd (low n far e)
            | inr later ↦ r.none n far later
          ];
        })
      where
        low : (n : ℕ) → r.after < n → n ≡ at → ⊥
        low n far e =
            let h : at + length p ≤ end_of (at + length p) r.split.before = end-after (at + length p) r.split.before in
            let b : r.after ≡ end_of (at + length p) r.split.before = r.split.begins in
            omega arith
    on (inr none) = look (tables at) refl none

-- what a crash leaves of tables that are on the disk
left-whole : {T : Type 0} (file : Option (Written T)) (tables : T) (left : Option T) → file ≡ Some (whole tables)
    → TablesLeft file left → left ≡ Some tables
left-whole {T} file tables left e may =
    let h : TablesLeft (Some (whole tables)) left = subst (λ (f : Option (Written T)). TablesLeft f left) e may in
    h.1 ∙ ap Some (h.2 refl)

-- and of tables that are there only if a segment begins there
left-at : {T C : Type 0} (next : T → C → T) (first : T) (log : List C) (at : ℕ) (closed : List (List C)) (n : ℕ)
    (file : Option (Written T)) (left : Option T) → IfSome file (IsTablesAt next first log at closed n)
    → TablesLeft file left
    → (left ≡ None) ⊎ (IsBegin at closed n × (left ≡ Some (tables_after next first (take n log))))
left-at next first log at closed n None left h may = inl may
left-at {T} {C} next first log at closed n (Some f) left h may =
    inr (
      h.0,
      left-whole (Some f) (tables_after next first (take n log)) left
          (ap (λ (g : Written T). Some g) h.1) may,
    )

-- what a crash leaves of tables that were named at some time
old-tables : {T : Type 0} (n later end : ℕ) (value : T) (file : Option (Written T)) (left : Option T) → end ≤ later
    → IfSome file (λ (f : Written T). (n ≤ end) × (f ≡ whole value)) → TablesLeft file left
    → IfSome left (λ (t : T). (n ≤ later) × (t ≡ value))
old-tables {T} n later end value None left grows h may =
    subst (λ (o : Option T). IfSome o (λ (t : T). (n ≤ later) × (t ≡ value))) (sym may) tt
old-tables {T} n later end value (Some f) left grows h may =
    subst (λ (o : Option T). IfSome o (λ (t : T). (n ≤ later) × (t ≡ value)))
    (sym (left-whole (Some f) value left (ap (λ (g : Written T). Some g) h.1) may))
    ((let low : n ≤ end = h.0 in omega arith), refl)

-- and of a segment that is not the last
old-part : {C : Type 0} (log : List C) (end later n : ℕ) (file : Option (Segment C)) (left : Option (List C)) → end ≤ later
    → IfSome file (λ (s : Segment C). IsPart log end n s.commits) → SegmentLeft file left
    → IfSome left (λ (cs : List C). IsPart log later n cs)
old-part {C} log end later n None left grows h may =
    subst (λ (o : Option (List C)). IfSome o (λ (cs : List C). IsPart log later n cs)) (sym may) tt
old-part {C} log end later n (Some s) left grows h may =
    subst (λ (o : Option (List C)). IfSome o (λ (cs : List C). IsPart log later n cs)) (sym may.2)
    (part-later log end later n (take may.0 s.commits) grows (part-front log end n may.0 s.commits h))

-- a segment of a chain that is not the last has its part of the log
chain-part : {C : Type 0} (segments : ℕ → Option (List C)) (front : List C) (parts : List (List C)) (last more log : List C)
    → log ≡ front ++ joined parts (last ++ more) → (n : ℕ) → IsChain segments (length front) parts last
    → IsBegin (length front) parts n
    → IsLeftSegment log (end_of (length front) parts) n (segments n)
chain-part segments front [] last more log is n chain e = inl e
chain-part {C} segments front (p ∷ ps) last more log is n chain (inl e) =
    let drops : drop n log ≡ p ++ joined ps (last ++ more) =
    ap (drop n) is ∙ ap (λ (m : ℕ). drop m (front ++ (p ++ joined ps (last ++ more)))) e
    ∙ drop-append_seam front (p ++ joined ps (last ++ more)) in
    let piece : p ≡ take (length p) (drop n log) =
    sym (ap (take (length p)) drops ∙ take-append_seam p (joined ps (last ++ more))) in
    let far : length front + length p ≤ end_of (length front + length p) ps = end-after (length front + length p) ps in
    inr (subst (λ (o : Option (List C)). IfSome o
    (λ (cs : List C). IsPart log (end_of (length front + length p) ps) n cs))
    (sym (ap segments e ∙ chain.0)) (inr (omega (arith, e), piece)))
chain-part {C} segments front (p ∷ ps) last more log is n chain (inr b) =
    let long : length (front ++ p) ≡ length front + length p = length-append front p in
    let rest = chain-part segments (front ++ p) ps last more log
    (is ∙ sym (append_assoc front p (joined ps (last ++ more)))) n
    (subst (λ (a : ℕ). IsChain segments a ps last) (sym long) chain.2)
    (subst (λ (a : ℕ). IsBegin a ps n) (sym long) b) in
    subst (λ (a : ℕ). IsLeftSegment log (end_of a ps) n (segments n)) long rest

-- a start finds the tables after a front of the log and what the segments behind it have
pub record Settled {T C : Type 0} (next : T → C → T) (d : ℕ) (w : World T C) (c : Chained next d w) (left : Store T C) : Type 0
  where
    pub front : List C
    pub closed : List (List C)
    pub last : List C
    pub rest : List C
    pub log : w.log ≡ front ++ joined closed (last ++ rest)
    pub told : w.told ≤ end_of (length front) closed + length last
    pub durable : d ≤ end_of (length front) closed + length last
    pub finds : Finds left
        record { after = length front; tables = tables_after next w.first front; closed = closed; last = last }
    pub higher : (n : ℕ) → length front < n → length c.front < n
    pub begins : (n : ℕ) → length front < n → IsBegin (length c.front) c.closed n → IsBegin (length front) closed n
    pub grows : last_at c ≤ end_of (length front) closed
    pub tables : (n : ℕ) → IfSome (left.tables n) (AreLeftTables next w.first w.log (end_of (length front) closed) n)
    pub segments : (n : ℕ) → IsLeftSegment w.log (end_of (length front) closed) n (left.segments n)

-- this is found
abbrev pub found_of : {T C : Type 0} {next : T → C → T} {d : ℕ} {w : World T C} {c : Chained next d w} {left : Store T C}
    → Settled next d w c left → Found T C
found_of {T} {C} {next} {d} {w} s =
    record { after = length s.front; tables = tables_after next w.first s.front; closed = s.closed; last = s.last }

-- where the last segment that is found begins
abbrev pub found_end : {T C : Type 0} {next : T → C → T} {d : ℕ} {w : World T C} {c : Chained next d w} {left : Store T C}
    → Settled next d w c left → ℕ
found_end s = end_of (length s.front) s.closed

pub settle : {T C : Type 0} (next : T → C → T) (d : ℕ) (w : World T C) (k : Kept next d w) (left : Store T C) → MayLeave w left
    → Settled next d w k.chained left
settle {T} {C} next d w k left may = by (search-newest left.tables (length k.chained.front) k.chained.closed)
  where
    root : left.tables (length k.chained.front) ≡ Some (tables_after next w.first k.chained.front)
    root =
        let m = may.tables (length k.chained.front) in
        left-whole m.0 (tables_after next w.first k.chained.front) (left.tables (length k.chained.front))
        (stands-sure (w.tables (length k.chained.front)) (Some (whole (tables_after next w.first k.chained.front))) m.0
        k.root m.1) m.2

    at-newer : (n : ℕ) → length k.chained.front < n
        → (left.tables n ≡ None)
        ⊎ (IsBegin (length k.chained.front) k.chained.closed n
        × (left.tables n ≡ Some (tables_after next w.first (take n w.log))))
    at-newer n far =
        let m = may.tables n in
        left-at next w.first w.log (length k.chained.front) k.chained.closed n m.0 (left.tables n)
        (k.chained.newer n far m.0 m.1) m.2

    none-left : (n : ℕ) → NoCommits (w.segments n) → IfSome (left.segments n) (λ commits. commits ≡ [])
    none-left n none = let m = may.segments n in left-empty m.0 (left.segments n) (none m.0 m.1) m.2

    value : (n : ℕ) (t : T) → left.tables n ≡ Some t → length k.chained.front ≤ n
        → (length k.chained.front < n) ⊎ (n ≤ length k.chained.front)
        → left.tables n ≡ Some (tables_after next w.first (take n w.log))
    value n t there low (inl far) = elim (at-newer n far) [
      | inl none ↦ absurd (no_some (left.tables n) t none there)
      | inr is ↦ is.1
    ]
    value n t there low (inr high) =
        let here : length k.chained.front ≡ n = omega arith in
        let front : take n w.log ≡ k.chained.front =
        ap (λ (m : ℕ). take m w.log) (sym here) ∙ ap (take (length k.chained.front)) k.chained.log
        ∙ take-append_seam k.chained.front (joined k.chained.closed (k.chained.last.commits ++ k.chained.rest)) in
        ap (λ (m : ℕ). left.tables m) (sym here) ∙ root ∙ ap (λ l. Some (tables_after next w.first l)) (sym front)

    from : (n : NewestIn left.tables (length k.chained.front) k.chained.closed) → Rerooted next d w k.chained n.after
        → Settled next d w k.chained left
    from n r = with_chain chain
      where
        low : length k.chained.front ≤ n.after
        low =
            let h : length k.chained.front ≤ end_of (length k.chained.front) n.split.before =
            end-after (length k.chained.front) n.split.before in
            let b : n.after ≡ end_of (length k.chained.front) n.split.before = n.split.begins in
            omega arith

        higher : (m : ℕ) → length r.to.front < m → length k.chained.front < m
        higher m far = let l = low in let e : length r.to.front ≡ n.after = r.at in omega arith

        behind : (m : ℕ) → end_of (length r.to.front) r.to.closed < m
            → IfSome (left.segments m) (λ commits. commits ≡ [])
        behind m far = elim (r.to.others m (let h = end-after (length r.to.front) r.to.closed in omega arith)) [
          | inl b ↦ absurd (let h = begin-before (length r.to.front) r.to.closed m b in omega arith)
          | inr none ↦ none-left m none
        ]

        chain : LeftChain left.segments (length r.to.front) r.to.closed r.to.last
        chain =
            left-chain w.segments left.segments may.segments (length r.to.front) r.to.closed r.to.last r.to.chain behind

        with_chain : LeftChain left.segments (length r.to.front) r.to.closed r.to.last → Settled next d w k.chained left
        with_chain lc = record {
          front = r.to.front;
          closed = lc.closed;
          last = lc.end;
          rest = drop lc.count r.to.last.commits ++ r.to.rest;
          log = log_is lc;
          told = enough lc w.told r.to.told;
          durable = enough lc d r.to.durable;
          finds = record {
            newest = record {
              are = ap (λ (m : ℕ). left.tables m) r.at ∙ value n.after n.there.0 n.there.1 low (cases_lt (length k.chained.front) n.after)
                  ∙ ap (λ l. Some (tables_after next w.first l)) (sym r.front);
              none_newer = λ m far. elim (at-newer m (higher m far)) [
                | inl none ↦ none
                | inr is ↦ n.none m (let e : length r.to.front ≡ n.after = r.at in omega arith) is.0
              ];
            };
            chain = lc.chain;
            no_gap = λ m far. elim (r.to.others m far) [
              | inl b ↦ inl (lc.begins m b)
              | inr none ↦ inr (none-left m none)
            ];
          };
          higher = higher;
          begins = λ m far b. lc.begins m (r.forth m far b);
          grows = grows lc;
          tables = λ m. left-tables lc m (may.tables m);
          segments = λ m. left-part lc m (may.segments m);
        }
          where
            log_is : (lc : LeftChain left.segments (length r.to.front) r.to.closed r.to.last)
                → w.log ≡ r.to.front ++ joined lc.closed (lc.end ++ (drop lc.count r.to.last.commits ++ r.to.rest))
            log_is lc =
                r.to.log ∙ ap (λ l. r.to.front ++ l)
                (ap (joined r.to.closed) (sym (cut lc.count r.to.last.commits r.to.rest))
                ∙ joined-append r.to.closed (take lc.count r.to.last.commits) (drop lc.count r.to.last.commits ++ r.to.rest)
                ∙ ap (λ l. l ++ (drop lc.count r.to.last.commits ++ r.to.rest)) (sym lc.same)
                ∙ sym (joined-append lc.closed lc.end (drop lc.count r.to.last.commits ++ r.to.rest)))

            -- what was synced is found
            enough : (lc : LeftChain left.segments (length r.to.front) r.to.closed r.to.last) (n : ℕ)
                → n ≤ end_of (length r.to.front) r.to.closed + r.to.last.synced
                → n ≤ end_of (length r.to.front) lc.closed + length lc.end
            enough lc n few =
                let found = end-is (length r.to.front) lc.closed lc.end in
                let kept = end-is (length r.to.front) r.to.closed (take lc.count r.to.last.commits) in
                let count = length-take lc.count r.to.last.commits in
                let same : length (joined lc.closed lc.end)
                ≡ length (joined r.to.closed (take lc.count r.to.last.commits)) = ap length lc.same in
                let synced : r.to.last.synced ≤ length r.to.last.commits = r.to.synced in
                let more : r.to.last.synced ≤ lc.count = lc.enough in
                omega arith

            last_begins : (lc : LeftChain left.segments (length r.to.front) r.to.closed r.to.last)
                → IsBegin (length r.to.front) lc.closed (last_at k.chained)
            last_begins lc =
                lc.begins (last_at k.chained) (subst (λ (m : ℕ). IsBegin (length r.to.front) r.to.closed m) r.ends
                (end-begins (length r.to.front) r.to.closed))

            grows : (lc : LeftChain left.segments (length r.to.front) r.to.closed r.to.last)
                → last_at k.chained ≤ end_of (length r.to.front) lc.closed
            grows lc = begin-before (length r.to.front) lc.closed (last_at k.chained) (last_begins lc)

            left-tables : (lc : LeftChain left.segments (length r.to.front) r.to.closed r.to.last) (m : ℕ)
                → (file : Option (Written T)) × MayStand (w.tables m) file × TablesLeft file (left.tables m)
                → IfSome (left.tables m) (AreLeftTables next w.first w.log (end_of (length r.to.front) lc.closed) m)
            left-tables lc m is =
                old-tables m (end_of (length r.to.front) lc.closed) (last_at k.chained) (tables_after next w.first (take m w.log))
                is.0 (left.tables m) (grows lc) (k.old.tables m is.0 is.1) is.2

            left-part : (lc : LeftChain left.segments (length r.to.front) r.to.closed r.to.last) (m : ℕ)
                → (file : Option (Segment C)) × MayStand (w.segments m) file × SegmentLeft file (left.segments m)
                → IsLeftSegment w.log (end_of (length r.to.front) lc.closed) m (left.segments m)
            left-part lc m is = of_part (k.old.segments m is.0 is.1)
              where
                of_part : IsOldSegment w.log (last_at k.chained) m is.0
                    → IsLeftSegment w.log (end_of (length r.to.front) lc.closed) m (left.segments m)
                of_part (inl e) =
                    chain-part left.segments r.to.front lc.closed lc.end
                    (drop lc.count r.to.last.commits ++ r.to.rest) w.log (log_is lc) m lc.chain
                    (subst (λ (n : ℕ). IsBegin (length r.to.front) lc.closed n) (sym e) (last_begins lc))
                of_part (inr h) =
                    inr (old-part w.log (last_at k.chained) (end_of (length r.to.front) lc.closed) m is.0 (left.segments m)
                    (grows lc) h is.2)

    by : NewestIn left.tables (length k.chained.front) k.chained.closed
        ⊎ ((n : ℕ) → IsBegin (length k.chained.front) k.chained.closed n → left.tables n ≡ None)
        → Settled next d w k.chained left
    by (inl n) = from n (reroot next d w k.chained n.after n.split)
    by (inr none) =
        absurd (no_some (left.tables (length k.chained.front)) (tables_after next w.first k.chained.front)
        (none (length k.chained.front) (first-begins (length k.chained.front) k.chained.closed)) root)

module _ {T C : Type 0} (next : T → C → T) (d : ℕ) (w : World T C) (c : Chained next d w) (left : Store T C)
    (s : Settled next d w c left) where
  pub settled-log : w.log ≡ (s.front ++ joined s.closed s.last) ++ s.rest
  settled-log =
      s.log ∙ ap (λ l. s.front ++ l) (joined-append s.closed s.last s.rest)
      ∙ sym (append_assoc s.front (joined s.closed s.last) s.rest)

  pub settled-length : length (s.front ++ joined s.closed s.last) ≡ end_of (length s.front) s.closed + length s.last
  settled-length =
      let ends : length s.front + length (joined s.closed s.last) ≡ end_of (length s.front) s.closed + length s.last =
      end-is (length s.front) s.closed s.last in
      omega (arith, ends, length-append s.front (joined s.closed s.last))

  pub settled-taken : take (end_of (length s.front) s.closed + length s.last) w.log ≡ s.front ++ joined s.closed s.last
  settled-taken =
      ap (take (end_of (length s.front) s.closed + length s.last)) settled-log
      ∙ ap (λ (n : ℕ). take n ((s.front ++ joined s.closed s.last) ++ s.rest)) (sym settled-length)
      ∙ take-append_seam (s.front ++ joined s.closed s.last) s.rest

  pub settled-front : take (length s.front) w.log ≡ s.front
  settled-front = ap (take (length s.front)) s.log ∙ take-append_seam s.front (joined s.closed (s.last ++ s.rest))

  pub is-beginning : IsBeginning next w.first w.log w.told (found_of s)
  is-beginning = record {
    count = end_of (length s.front) s.closed + length s.last;
    enough = s.told;
    inside =
        (let all : length w.log ≡ length ((s.front ++ joined s.closed s.last) ++ s.rest) = ap length settled-log in
        let l = settled-length in
        omega (arith, all, l, length-append (s.front ++ joined s.closed s.last) s.rest));
    tables = ap (tables_after next w.first) (sym settled-front);
    commits = settled-taken ∙ ap (λ l. l ++ joined s.closed s.last) (sym settled-front);
  }
