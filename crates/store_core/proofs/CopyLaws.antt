-- What a start finds in a copy is a beginning of the log.
use Rattle.std.proofs.Common.{◌≡◌, ◌⊎◌, ℕ, ◌+◌, ◌<◌, ◌≤◌, List, [], ◌∷◌, ◌++◌, length, take, drop, le_refl}
use Rattle.std.proofs.Common.{refl, sym, ap, ◌∙◌, inl, inr, arith, length-append, length-take, take-add, drop-drop, length-take-le, Option, Some, IfSome, subst}
use Rattle.std.proofs.lemmas.List.{take-append-drop}
use Rattle.std.proofs.Math.Seq.{take-append_seam, drop-append_seam}
use Rattle.store_core.specs.Places.{Place, sure, Segment, Written, whole}
use Rattle.store_core.specs.Found.{Store, joined, IsChain, IsBeginning, tables_after}
use Rattle.store_core.specs.World.{World, Step}
use Rattle.store_core.specs.World.{new_world, after}
use Rattle.store_core.specs.Runs.{IsRun, after_all}
use Rattle.store_core.specs.Copies.{IsMoment, WereNamed, WereOnDisk, IsCopy, CopiesAreTrue}
use Rattle.store_core.proofs.ChainLaws.{sure-end}
use Rattle.store_core.proofs.Keeping.{IsPart, part-equation, part-front, part-later, last_at, longer, Kept, raised}
use Rattle.store_core.proofs.Keeping.{log-at-end, front-length}
use Rattle.store_core.proofs.RunLaws.{new_keeps, run_keeps, run-parts, Stays, durable-inside, run_stays}

-- a part within what two lists have alike is a part of both
part-alike : {C : Type 0} (xs ys : List C) (end n : ℕ) (commits : List C) → end ≤ length xs → end ≤ length ys
    → take end ys ≡ take end xs → IsPart xs end n commits → IsPart ys end n commits
part-alike xs ys end n commits long other alike (inl none) = inl none
part-alike {C} xs ys end n commits long other alike (inr is) =
    inr (is.0, is.1 ∙ within xs long ∙ ap (λ (l : List C). take (length commits) (drop n l)) (sym alike) ∙ sym (within ys other))
  where
    within : (zs : List C) → end ≤ length zs
        → take (length commits) (drop n zs) ≡ take (length commits) (drop n (take end zs))
    within zs inside =
        let fits : n + length commits ≤ end = is.0 in
        let l : length (take end zs) ≡ end = length-take-le end zs inside in
        ap (λ (l : List C). take (length commits) (drop n l)) (sym (take-append-drop end zs))
        ∙ part-equation (take end zs) (drop end zs) n (length commits) (omega arith)

-- what is on the disk of a segment at a moment is a part of the log then
synced-part : {T C : Type 0} (next : T → C → T) (d : ℕ) (w : World T C) (k : Kept next d w) (n : ℕ) (segment : Segment C)
    (count : ℕ) → (w.segments n).now ≡ Some segment → count ≤ segment.synced
    → IsPart w.log (last_at k.chained + k.chained.last.synced) n (take count segment.commits)
synced-part {T} {C} next d w k n segment count there few =
    by (k.old.segments n (Some segment) (inl (sym there)))
  where
    behind : drop (last_at k.chained) w.log ≡ k.chained.last.commits ++ k.chained.rest
    behind =
        ap (drop (last_at k.chained)) (log-at-end next d w k.chained)
        ∙ ap (λ (m : ℕ). drop m (longer k.chained.front k.chained.closed ++ (k.chained.last.commits ++ k.chained.rest)))
        (sym (front-length next d w k.chained))
        ∙ drop-append_seam (longer k.chained.front k.chained.closed) (k.chained.last.commits ++ k.chained.rest)

    last_part : IsPart w.log (last_at k.chained + length k.chained.last.commits) (last_at k.chained) k.chained.last.commits
    last_part =
        inr (
          omega arith,
          sym (ap (take (length k.chained.last.commits)) behind ∙ take-append_seam k.chained.last.commits k.chained.rest),
        )

    narrowed : count ≤ k.chained.last.synced
        → IsPart w.log (last_at k.chained + length k.chained.last.commits) (last_at k.chained) (take count k.chained.last.commits)
        → IsPart w.log (last_at k.chained + k.chained.last.synced) (last_at k.chained) (take count k.chained.last.commits)
    narrowed low (inl none) = inl none
    narrowed low (inr is) =
        let l = length-take count k.chained.last.commits in inr (omega (arith, l, low), is.1)

    by : (n ≡ last_at k.chained) ⊎ IfSome (Some segment) (λ (s : Segment C). IsPart w.log (last_at k.chained) n s.commits)
        → IsPart w.log (last_at k.chained + k.chained.last.synced) n (take count segment.commits)
    by (inl e) =
        let place : w.segments n ≡ sure (Some k.chained.last) =
        ap w.segments e ∙ sure-end w.segments (length k.chained.front) k.chained.closed k.chained.last k.chained.chain in
        let both : Some segment ≡ Some k.chained.last = sym there ∙ ap (λ (p : Place (Segment C)). p.now) place in
        let same : segment ≡ k.chained.last = cc in
        subst (λ (s : Segment C). IsPart w.log (last_at k.chained + k.chained.last.synced) n (take count s.commits)) (sym same)
        (subst (λ (m : ℕ). IsPart w.log (last_at k.chained + k.chained.last.synced) m (take count k.chained.last.commits)) (sym e)
        (narrowed (subst (λ (s : Segment C). count ≤ s.synced) same few)
        (part-front w.log (last_at k.chained + length k.chained.last.commits) (last_at k.chained) count
        k.chained.last.commits last_part)))
    by (inr h) =
        part-later w.log (last_at k.chained) (last_at k.chained + k.chained.last.synced) n (take count segment.commits)
        (omega arith) (part-front w.log (last_at k.chained) n count segment.commits h)

-- what a copy has is of the log as it is in the end
pub record IsOfLog {T C : Type 0} (next : T → C → T) (first : T) (log : List C) (copy : Store T C) : Type 0 where
  pub tables : (n : ℕ) (t : T) → copy.tables n ≡ Some t
      → (n ≤ length log) × (t ≡ tables_after next first (take n log))
  pub segments : (n : ℕ) (commits : List C) → copy.segments n ≡ Some commits → IsPart log (length log) n commits

after-append : {T C : Type 0} (w : World T C) (before later : List (Step T C))
    → after_all w (before ++ later) ≡ after_all (after_all w before) later
after-append w [] later = refl
after-append w (step ∷ before) later = after-append (after w step) before later

-- a moment of a run, as its end sees it
record Reached {T C : Type 0} (next : T → C → T) (first : T) (v w : World T C) : Type 0 where
  pub kept : Kept next 0 w
  pub long : last_at kept.chained + kept.chained.last.synced ≤ length w.log
  pub end : last_at kept.chained + kept.chained.last.synced ≤ length v.log
  pub stays : Stays (last_at kept.chained + kept.chained.last.synced) w v
  pub first_is : w.first ≡ first

reach-at : {T C : Type 0} (next : T → C → T) (first : T) (before later : List (Step T C))
    → IsRun next (new_world first) (before ++ later)
    → Reached next first (after_all (new_world first) (before ++ later)) (after_all (new_world first) before)
reach-at {T} {C} next first before later run =
    subst (λ (v : World T C). Reached next first v (after_all (new_world first) before))
    (sym (after-append (new_world first) before later))
    (from (after_all (new_world first) before)
    (run_keeps next 0 (new_world first) before (new_keeps next first) parts.0) parts.1
    (run_stays next 0 (new_world first) before (new_keeps next first) parts.0).first)
  where
    parts : IsRun next (new_world first) before × IsRun next (after_all (new_world first) before) later
    parts = run-parts next (new_world first) before later run

    from : (w : World T C) (k : Kept next 0 w) → IsRun next w later → w.first ≡ first
        → Reached next first (after_all w later) w
    from w k rest same =
        let d = last_at k.chained + k.chained.last.synced in
        let r = raised next 0 w k d (le_refl d) in
        record {
          kept = k;
          long = durable-inside next d w r;
          end = durable-inside next d (after_all w later) (run_keeps next d w later r rest);
          stays = run_stays next d w later r rest;
          first_is = same;
        }

reach : {T C : Type 0} (next : T → C → T) (first : T) (steps : List (Step T C)) → IsRun next (new_world first) steps
    → (w : World T C) → IsMoment first steps w → Reached next first (after_all (new_world first) steps) w
reach {T} {C} next first steps run w m =
    subst (λ (u : World T C). Reached next first (after_all (new_world first) steps) u) (sym m.is)
    (subst (λ (all : List (Step T C)). Reached next first (after_all (new_world first) all) (after_all (new_world first) m.before))
    (sym m.are)
    (reach-at next first m.before m.later
    (subst (λ (all : List (Step T C)). IsRun next (new_world first) all) m.are run)))

reached-tables : {T C : Type 0} (next : T → C → T) (first : T) (v w : World T C) (r : Reached next first v w) (n : ℕ) (t : T)
    → (w.tables n).now ≡ Some (whole t) → (n ≤ length v.log) × (t ≡ tables_after next first (take n v.log))
reached-tables {T} {C} next first v w r n t there =
    let old = r.kept.old.tables n (Some (whole t)) (inl (sym there)) in
    let low : n ≤ last_at r.kept.chained + r.kept.chained.last.synced = (let l = old.0 in omega arith) in
    let value : t ≡ tables_after next w.first (take n w.log) = ap (λ (f : Written T). f.tables) old.1 in (
      (let e = r.end in omega arith),
      value ∙ ap (λ (first : T). tables_after next first (take n w.log)) r.first_is
          ∙ ap (λ (l : List C). tables_after next first l) (sym (r.stays.log n low)),
    )

reached-part : {T C : Type 0} (next : T → C → T) (first : T) (v w : World T C) → Reached next first v w → (n : ℕ)
    (segment : Segment C) (count : ℕ) → (w.segments n).now ≡ Some segment → count ≤ segment.synced
    → IsPart v.log (length v.log) n (take count segment.commits)
reached-part {T} {C} next first v w r n segment count there few =
    part-later v.log (last_at r.kept.chained + r.kept.chained.last.synced) (length v.log) n (take count segment.commits) r.end
    (part-alike w.log v.log (last_at r.kept.chained + r.kept.chained.last.synced) n (take count segment.commits) r.long r.end
    (r.stays.log (last_at r.kept.chained + r.kept.chained.last.synced)
    (le_refl (last_at r.kept.chained + r.kept.chained.last.synced)))
    (synced-part next 0 w r.kept n segment count there few))

copy-of-log : {T C : Type 0} (next : T → C → T) (first : T) (steps : List (Step T C)) → IsRun next (new_world first) steps
    → (copy : Store T C) → IsCopy first steps copy
    → IsOfLog next first (after_all (new_world first) steps).log copy
copy-of-log {T} {C} next first steps run copy is = record { tables = tables; segments = segments }
  where
    tables : (n : ℕ) (t : T) → copy.tables n ≡ Some t
        → (n ≤ length (after_all (new_world {C = C} first) steps).log)
        × (t ≡ tables_after next first (take n (after_all (new_world {C = C} first) steps).log))
    tables n t e =
        let were : WereNamed first steps n t =
        subst (λ (o : Option T). IfSome o (λ tables. WereNamed first steps n tables)) e (is.tables n) in
        reached-tables next first (after_all (new_world first) steps) were.world
        (reach next first steps run were.world were.moment) n t were.there

    segments : (n : ℕ) (commits : List C) → copy.segments n ≡ Some commits
        → IsPart (after_all (new_world first) steps).log (length (after_all (new_world first) steps).log) n commits
    segments n commits e =
        let were : WereOnDisk first steps n commits =
        subst (λ (o : Option (List C)). IfSome o (λ commits. WereOnDisk first steps n commits)) e (is.segments n) in
        subst (λ (cs : List C). IsPart (after_all (new_world first) steps).log (length (after_all (new_world first) steps).log) n cs)
        (sym were.are)
        (reached-part next first (after_all (new_world first) steps) were.world
        (reach next first steps run were.world were.moment) n were.segment were.count were.there were.synced)

-- a chain of parts is a part
chain-of-log : {C : Type 0} (segments : ℕ → Option (List C)) (log : List C)
    → ((n : ℕ) (commits : List C) → segments n ≡ Some commits → IsPart log (length log) n commits)
    → (at : ℕ) (parts : List (List C)) (last : List C) → at ≤ length log → IsChain segments at parts last
    → (at + length (joined parts last) ≤ length log) × (joined parts last ≡ take (length (joined parts last)) (drop at log))
chain-of-log {C} segments log each at [] last inside chain = of_part last (each at last chain.0)
  where
    of_part : (last : List C) → IsPart log (length log) at last
        → (at + length last ≤ length log) × (last ≡ take (length last) (drop at log))
    of_part last (inr is) = is
    of_part [] (inl none) = (omega arith, refl)
    of_part (c ∷ cs) (inl none) = absurd cc
chain-of-log {C} segments log each at (p ∷ ps) last inside chain =
    of_part (λ within. chain-of-log segments log each (at + length p) ps last within chain.2) (each at p chain.0)
  where
    of_part : (at + length p ≤ length log → (at + length p + length (joined ps last) ≤ length log)
        × (joined ps last ≡ take (length (joined ps last)) (drop (at + length p) log)))
        → IsPart log (length log) at p
        → (at + length (p ++ joined ps last) ≤ length log)
        × (p ++ joined ps last ≡ take (length (p ++ joined ps last)) (drop at log))
    of_part rest (inl none) = absurd (let l : length p ≡ 0 = ap length none in let some : 0 < length p = chain.1 in omega arith)
    of_part rest (inr is) = with_rest is (rest is.0)
      where
        with_rest : (at + length p ≤ length log) × (p ≡ take (length p) (drop at log))
            → (at + length p + length (joined ps last) ≤ length log)
            × (joined ps last ≡ take (length (joined ps last)) (drop (at + length p) log))
            → (at + length (p ++ joined ps last) ≤ length log)
            × (p ++ joined ps last ≡ take (length (p ++ joined ps last)) (drop at log))
        with_rest is rest =
            let l : length (p ++ joined ps last) ≡ length p + length (joined ps last) = length-append p (joined ps last) in
            let fits : at + length p + length (joined ps last) ≤ length log = rest.0 in (
              omega arith,
              ap (λ (x : List C). x ++ joined ps last) is.1
                  ∙ ap (λ (x : List C). take (length p) (drop at log) ++ x)
                  (rest.1 ∙ ap (take (length (joined ps last))) (sym (drop-drop (length p) at log)))
                  ∙ sym (take-add (length p) (length (joined ps last)) (drop at log))
                  ∙ ap (λ (n : ℕ). take n (drop at log)) (sym l),
            )

pub copies_are_true : {T C : Type 0} (next : T → C → T) → CopiesAreTrue next
copies_are_true {T} {C} next first steps run copy is found finds =
    beginning (copy-of-log next first steps run copy is)
  where
    beginning : IsOfLog next first (after_all (new_world first) steps).log copy
        → IsBeginning next first (after_all (new_world first) steps).log 0 found
    beginning of =
        let tables = of.tables found.after found.tables finds.newest.are in
        let chain = chain-of-log copy.segments (after_all (new_world first) steps).log of.segments found.after found.closed
        found.last tables.0 finds.chain in
        record {
          count = found.after + length (joined found.closed found.last);
          enough = omega arith;
          inside = chain.0;
          tables = tables.1;
          commits =
              take-add found.after (length (joined found.closed found.last)) (after_all (new_world first) steps).log
              ∙ ap (λ (l : List C). take found.after (after_all (new_world first) steps).log ++ l) (sym chain.1);
        }
