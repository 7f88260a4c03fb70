-- What is lost without each of the rules.
use Rattle.std.proofs.Common.{◌≡◌, ◌⊎◌, ℕ, zero, suc, ◌+◌, ◌<◌, ◌≤◌, List, [], ◌∷◌, ◌++◌, length, take, Option, Some, None, IfSome}
use Rattle.std.proofs.Common.{refl, sym, ap, ◌∙◌, arith, rules, inl, inr, false, subst, option_map}
use Rattle.std.proofs.lemmas.Bool.{cases_eq}
use Rattle.store_core.specs.Places.{Place, sure, renamed, MayStand, Segment, empty, settled, SegmentLeft, Written, whole, TablesLeft}
use Rattle.store_core.specs.Found.{Store, IsBegin, IsChain, joined, tables_after}
use Rattle.store_core.specs.World.{World, Commit, Append, Sync, Tell, Begin, SyncNames, GoOn, SyncTables, NameTables, DropSegment}
use Rattle.store_core.specs.World.{SyncName, MayLeave, reads, new_world, first_tables, changed_at}
use Rattle.store_core.specs.Runs.{after_all}
use Rattle.store_core.specs.Worked.{one_more, first_start, served_steps, fold_first}
use Rattle.store_core.specs.Needed.{NamesUnsynced, DropsEarly, BeginsEarly, GoesOnEarly, FoldsOpen}
use Rattle.store_core.proofs.ListLaws.{no_some}
use Rattle.store_core.proofs.ChainLaws.{changed-same, changed-other}
use Rattle.store_core.proofs.StartLaws.{may-read}
use Rattle.store_core.proofs.WorkedLaws.{run-joined, written-run, begun-run, served-run, fold-allowed}

-- a crash leaves the store as it reads, but for the tables or the segment of one number
abbrev with_tables : ℕ → Option (List ℕ) → World (List ℕ) ℕ → Store (List ℕ) ℕ
with_tables number left w = record (reads w) { tables = changed_at number (λ _. left) (reads w).tables }

abbrev with_segment : ℕ → Option (List ℕ) → World (List ℕ) ℕ → Store (List ℕ) ℕ
with_segment number left w = record (reads w) { segments = changed_at number (λ _. left) (reads w).segments }

may-tables : (w : World (List ℕ) ℕ) (number : ℕ) (left : Option (List ℕ)) (file : Option (Written (List ℕ)))
    → MayStand (w.tables number) file → TablesLeft file left → MayLeave w (with_tables number left w)
may-tables w number left file stands is = record { tables = λ n. by n (cases_eq n number); segments = (may-read w).segments }
  where
    by : (n : ℕ) → (n ≡ number) ⊎ (n ≡ number → ⊥) → (f : Option (Written (List ℕ))) × MayStand (w.tables n) f
        × TablesLeft f (changed_at number (λ _. left) (reads w).tables n)
    by n (inl e) = (
      file,
      subst (λ (m : ℕ). MayStand (w.tables m) file) (sym e) stands,
      subst (λ (o : Option (List ℕ)). TablesLeft file o)
          (sym (changed-same number (λ _. left) (reads w).tables n e)) is,
    )
    by n (inr apart) =
        let m = (may-read w).tables n in (
          m.0,
          m.1,
          subst (λ (o : Option (List ℕ)). TablesLeft m.0 o)
              (sym (changed-other number (λ _. left) (reads w).tables n apart)) m.2,
        )

may-segment : (w : World (List ℕ) ℕ) (number : ℕ) (left : Option (List ℕ)) (file : Option (Segment ℕ))
    → MayStand (w.segments number) file → SegmentLeft file left → MayLeave w (with_segment number left w)
may-segment w number left file stands is = record { tables = (may-read w).tables; segments = λ n. by n (cases_eq n number) }
  where
    by : (n : ℕ) → (n ≡ number) ⊎ (n ≡ number → ⊥) → (f : Option (Segment ℕ)) × MayStand (w.segments n) f
        × SegmentLeft f (changed_at number (λ _. left) (reads w).segments n)
    by n (inl e) = (
      file,
      subst (λ (m : ℕ). MayStand (w.segments m) file) (sym e) stands,
      subst (λ (o : Option (List ℕ)). SegmentLeft file o)
          (sym (changed-same number (λ _. left) (reads w).segments n e)) is,
    )
    by n (inr apart) =
        let m = (may-read w).segments n in (
          m.0,
          m.1,
          subst (λ (o : Option (List ℕ)). SegmentLeft m.0 o)
              (sym (changed-other number (λ _. left) (reads w).segments n apart)) m.2,
        )

no-chain : (segments : ℕ → Option (List ℕ)) (at : ℕ) (closed : List (List ℕ)) (last : List ℕ) → segments at ≡ None
    → IsChain segments at closed last → ⊥
no-chain segments at [] last none h = absurd (let there = h.0 in cc)
no-chain segments at (p ∷ ps) last none h = absurd (let there = h.0 in cc)

-- what stands behind the first two tables, where those of number 1 are all that changed
behind : (left : Option (List ℕ)) (tables : ℕ → Place (Written (List ℕ))) (n : ℕ) → tables (suc (suc n)) ≡ sure None
    → changed_at 1 (λ _. left) (λ m. option_map (λ (w : Written (List ℕ)). w.tables) (tables m).now) (suc (suc n)) ≡ None
behind left tables n e =
    changed-other 1 (λ _. left) (λ m. option_map (λ (w : Written (List ℕ)). w.tables) (tables m).now) (suc (suc n))
    (λ e. omega arith)
    ∙ ap (λ (p : Place (Written (List ℕ))). option_map (λ (w : Written (List ℕ)). w.tables) p.now) e

named-apart : (f : Place (Written (List ℕ)) → Place (Written (List ℕ))) (n : ℕ)
    → changed_at 1 f (first_tables []) (suc (suc n)) ≡ sure None
named-apart f n = changed-other 1 f (first_tables []) (suc (suc n)) (λ e. omega arith)

synced-apart : (f g : Place (Written (List ℕ)) → Place (Written (List ℕ))) (n : ℕ)
    → changed_at 1 g (changed_at 1 f (first_tables [])) (suc (suc n)) ≡ sure None
synced-apart f g n =
    changed-other 1 g (changed_at 1 f (first_tables [])) (suc (suc n)) (λ e. omega arith) ∙ named-apart f n

-- the name of tables is synced
abbrev synced_place : Place (Written (List ℕ)) → Place (Written (List ℕ))
synced_place place = sure place.now

abbrev unsynced : World (List ℕ) ℕ
unsynced = after_all (new_world []) (served_steps ++ fold_first ∷ NameTables 1 ∷ SyncName 1 ∷ [])

-- tables of which anything may be left
abbrev torn : Option (Written (List ℕ))
torn = Some record { tables = 7 ∷ []; synced = false }

pub names_unsynced : NamesUnsynced
names_unsynced = record {
  run = run-joined (new_world []) served_steps (fold_first ∷ []) served-run (fold-allowed, tt);
  goes_on = (tt, tt);
  left = with_tables 1 (Some (5 ∷ [])) unsynced;
  may = may-tables unsynced 1 (Some (5 ∷ [])) torn (inl refl) (5 ∷ [], refl, λ e. absurd cc);
  lost = λ found finds is. lost found.after found.tables finds.newest.are finds.newest.none_newer is.tables;
}
  where
    lost : (after : ℕ) (found : List ℕ) → (with_tables 1 (Some (5 ∷ [])) unsynced).tables after ≡ Some found
        → ((n : ℕ) → after < n → (with_tables 1 (Some (5 ∷ [])) unsynced).tables n ≡ None)
        → found ≡ tables_after one_more [] (take {A = ℕ} after (7 ∷ 8 ∷ [])) → ⊥
    lost zero found are newer is = absurd (let none = newer 1 (omega arith) in cc)
    lost (suc zero) found are newer is = absurd cc
    lost (suc (suc n)) found are newer is =
        no_some ((with_tables 1 (Some (5 ∷ [])) unsynced).tables (suc (suc n))) found
        (behind (Some (5 ∷ [])) (changed_at 1 synced_place (changed_at 1 (renamed torn) (first_tables []))) n
        (synced-apart (renamed torn) synced_place n)) are

abbrev dropped : World (List ℕ) ℕ
dropped = after_all (new_world []) (served_steps ++ fold_first ∷ SyncTables 1 ∷ NameTables 1 ∷ DropSegment 0 1 ∷ [])

pub drops_early : DropsEarly
drops_early = record {
  run = run-joined (new_world []) served_steps (fold_first ∷ SyncTables 1 ∷ NameTables 1 ∷ []) served-run
      (fold-allowed, (tt, ((7 ∷ [], refl, refl), tt)));
  goes_on = tt;
  left = with_tables 1 None dropped;
  may = may-tables dropped 1 None None (inr (inl refl)) refl;
  lost = λ found finds is. lost found.after found.tables found.closed found.last finds.newest.are finds.chain;
}
  where
    lost : (after : ℕ) (found : List ℕ) (closed : List (List ℕ)) (last : List ℕ)
        → (with_tables 1 None dropped).tables after ≡ Some found
        → IsChain (reads dropped).segments after closed last → ⊥
    lost zero found closed last are chain = no-chain (reads dropped).segments 0 closed last refl chain
    lost (suc zero) found closed last are chain = absurd cc
    lost (suc (suc n)) found closed last are chain =
        no_some ((with_tables 1 None dropped).tables (suc (suc n))) found
        (behind None (changed_at 1 (renamed (Some (whole (7 ∷ [])))) (first_tables [])) n
        (named-apart (renamed (Some (whole (7 ∷ [])))) n)) are

-- two segments, of which one was lost
abbrev early : World (List ℕ) ℕ
early =
    after_all (new_world [])
    (first_start ∷ Commit 7 ∷ Append 0 1 ∷ Begin 0 1 ∷ SyncNames ∷ GoOn 0 1 ∷ Commit 8 ∷ Append 1 2 ∷ Sync 1 ∷ Tell 1 2 ∷ [])

pub begins_early : BeginsEarly
begins_early = record {
  run = written-run;
  goes_on = (search rules, ((empty, (refl, refl), omega arith), (refl, ((settled (8 ∷ []), (refl, refl), omega arith), tt))));
  left = with_segment 0 (Some []) early;
  may = may-segment early 0 (Some []) (Some record { commits = 7 ∷ []; synced = 0 }) (inl refl) (0, omega arith, refl);
  lost = λ found finds is. lost found.after found.tables found.closed found.last finds.newest.are finds.chain finds.no_gap;
}
  where
    lost : (after : ℕ) (found : List ℕ) (closed : List (List ℕ)) (last : List ℕ) → (reads early).tables after ≡ Some found
        → IsChain (with_segment 0 (Some []) early).segments after closed last
        → ((n : ℕ) → after < n → IsBegin after closed n
        ⊎ IfSome ((with_segment 0 (Some []) early).segments n) (λ commits. commits ≡ [])) → ⊥
    lost zero found [] last are chain no_gap = elim (no_gap 1 (omega arith)) [ inl b ↦ omega (arith, b) | inr none ↦ absurd cc ]
    lost zero found (p ∷ ps) last are chain no_gap =
        let e : p ≡ [] = (let there = chain.0 in cc) in
        let some : 0 < length p = chain.1 in
        omega (arith, ap length e)
    lost (suc n) found closed last are chain no_gap = absurd cc

abbrev unnamed : World (List ℕ) ℕ
unnamed =
    after_all (new_world [])
    (first_start ∷ Commit 7 ∷ Append 0 1 ∷ Sync 0 ∷ Begin 0 1 ∷ GoOn 0 1 ∷ Commit 8 ∷ Append 1 2 ∷ Sync 1 ∷ Tell 1 2 ∷ [])

pub goes_on_early : GoesOnEarly
goes_on_early = record {
  run = begun-run;
  goes_on = (search rules, ((empty, (refl, refl), omega arith), (refl, ((settled (8 ∷ []), (refl, refl), omega arith), tt))));
  left = with_segment 1 None unnamed;
  may = may-segment unnamed 1 None None (inr (inl refl)) refl;
  lost = λ found finds is. lost found.after found.tables found.closed found.last finds.newest.are finds.chain is.count
      is.enough is.commits;
}
  where
    fewer : (count : ℕ) → 2 ≤ count → take {A = ℕ} count (7 ∷ 8 ∷ []) ≡ 7 ∷ [] → ⊥
    fewer zero enough is = omega arith
    fewer (suc zero) enough is = omega arith
    fewer (suc (suc n)) enough is = absurd cc

    lost : (after : ℕ) (found : List ℕ) (closed : List (List ℕ)) (last : List ℕ) → (reads unnamed).tables after ≡ Some found
        → IsChain (with_segment 1 None unnamed).segments after closed last → (count : ℕ) → 2 ≤ count
        → take {A = ℕ} count (7 ∷ 8 ∷ []) ≡ take {A = ℕ} after (7 ∷ 8 ∷ []) ++ joined closed last → ⊥
    lost zero found [] last are chain count enough is =
        fewer count enough (is ∙ (let there = chain.0 in cc))
    lost zero found (p ∷ ps) last are chain count enough is =
        let e : p ≡ 7 ∷ [] = (let there = chain.0 in cc) in
        no-chain (with_segment 1 None unnamed).segments 1 ps last refl
        (subst (λ (x : List ℕ). IsChain (with_segment 1 None unnamed).segments (0 + length x) ps last) e chain.2)
    lost (suc n) found closed last are chain count enough is = absurd cc

abbrev folded_open : World (List ℕ) ℕ
folded_open =
    after_all (new_world [])
    (first_start ∷ Commit 7 ∷ Append 0 1 ∷ fold_first ∷ SyncTables 1 ∷ NameTables 1 ∷ SyncName 1 ∷ [])

pub folds_open : FoldsOpen
folds_open = record {
  run = written-run;
  goes_on = (tt, ((7 ∷ [], refl, refl), (tt, tt)));
  left = reads folded_open;
  may = may-read folded_open;
  lost = λ found finds is. lost found.after found.tables found.closed found.last finds.newest.are finds.newest.none_newer
      finds.chain;
}
  where
    lost : (after : ℕ) (found : List ℕ) (closed : List (List ℕ)) (last : List ℕ)
        → (reads folded_open).tables after ≡ Some found → ((n : ℕ) → after < n → (reads folded_open).tables n ≡ None)
        → IsChain (reads folded_open).segments after closed last → ⊥
    lost zero found closed last are newer chain = absurd (let none = newer 1 (omega arith) in cc)
    lost (suc zero) found closed last are newer chain = no-chain (reads folded_open).segments 1 closed last refl chain
    lost (suc (suc n)) found closed last are newer chain =
        no_some ((reads folded_open).tables (suc (suc n))) found
        (ap (λ (p : Place (Written (List ℕ))). option_map (λ (w : Written (List ℕ)). w.tables) p.now)
        (synced-apart (renamed (Some (whole (7 ∷ [])))) synced_place n)) are
