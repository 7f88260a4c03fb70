-- The sums of the groups that lines have, one place more at a time.
use Rattle.std.proofs.Common.{◌≡◌, ℕ, ◌+◌, ◌%◌, ◌^◌, ◌<◌, ◌≢◌, true, false, List, [], ◌∷◌, ◌++◌, eqb, refl}
use Rattle.std.proofs.Common.{ap, sym, ◌∙◌, subst, ◌⊎◌, inl, inr, add-zero, zero-add, Some, arith}
use Rattle.std.specs.Prelude.{nat_eq, unwrap_or}
use Rattle.std.specs.List.{filter, sum_by, range_with_len}
use Rattle.std.proofs.Math.Nat.{mod-mod, mod-add-mod, mod-lt}
use Rattle.std.proofs.lemmas.Bool.Decides.{eqb_tells}
use Rattle.std.proofs.lemmas.List.{map-id, append-nil}
use Rattle.std.proofs.lemmas.List.Elements.{filter-append}
use Rattle.std.proofs.lemmas.List.Sums.{sum_by-cons}
use Rattle.std.proofs.lemmas.List.FromFn.{map-range_with_len_more}
use Rattle.indexmap.specs.IndexMap.{IndexMap, get}
use Rattle.ssb_questions.specs.declared.plan.Measure.{Measure}
use Rattle.scan_kernel.specs.declared.columns.LineColumns.{LineColumns}
use Rattle.scan_kernel.specs.declared.columns.GroupColumn.{GroupColumn}
use Rattle.scan_kernel.specs.declared.sparse.SparseColumn.{SparseColumn}
use Rattle.scan_kernel.specs.declared.sparse.GroupSums.{GroupSums}
use Rattle.scan_kernel.specs.declared.masks.Masks.{Masks}
use Rattle.scan_kernel.specs.Places.{part_at, group_at, gain_at, loss_at, has_bit}
use Rattle.scan_kernel.specs.Sums.{sum_in}
use Rattle.scan_kernel.specs.Totals.{taken}
use Rattle.scan_kernel.specs.Sparse.{as_group_column, as_group_columns, wide_part_at, nothing, sums_in, AddsLine}
use Rattle.scan_kernel.specs.Sparse.{AreSumsOf, Fit64, AreSparseTotals}
use Rattle.scan_kernel.proofs.AddLaws.{sum_in-append}

-- the number of a group is the sum of its columns' parts
pub group_is : (place : ℕ) (columns : List SparseColumn)
    → sum_by (wide_part_at place) columns ≡ group_at (as_group_columns columns) place
group_is place [] = refl
group_is place (column ∷ columns) =
    sum_by-cons (wide_part_at place) column columns ∙ ap (λ (n : ℕ). wide_part_at place column + n)
    (group_is place columns)
    ∙ sym (sum_by-cons (part_at place) (as_group_column column) (as_group_columns columns))

range_push : (n : ℕ) → range_with_len 0 (n + 1) ≡ range_with_len 0 n ++ n ∷ []
range_push n = sym (map-id (range_with_len 0 (n + 1))) ∙ map-range_with_len_more (λ (i : ℕ). i) 0 n n (zero-add n)
    ∙ ap (λ (xs : List ℕ). xs ++ n ∷ []) (map-id (range_with_len 0 n))

-- a place more is taken, or is not
pub taken_more : (lines : LineColumns) (masks : Masks) (k n : ℕ) → has_bit lines masks k n ≡ true
    → taken lines masks k (range_with_len 0 (n + 1)) ≡ taken lines masks k (range_with_len 0 n) ++ n ∷ []
taken_more lines masks k n bit = grind (arith, range_push, filter-append)

pub taken_same : (lines : LineColumns) (masks : Masks) (k n : ℕ) → has_bit lines masks k n ≡ false
    → taken lines masks k (range_with_len 0 (n + 1)) ≡ taken lines masks k (range_with_len 0 n)
taken_same lines masks k n bit = grind (arith, range_push, filter-append, append-nil)

added_to : (m a s x : ℕ) → a % m ≡ s % m → (a + x) % m % m ≡ (s + x) % m
added_to m a s x e = mod-mod (a + x) m ∙ sym (mod-add-mod a m x) ∙ ap (λ (v : ℕ). (v + x) % m) e ∙ mod-add-mod s m x

sums_more : (amount group : ℕ → ℕ) (places : List ℕ) (x : ℕ) (was now : ℕ → ℕ) → AreSumsOf amount group places was
    → now (group x) ≡ (was (group x) + amount x) % 2 ^ 64
    → ((g : ℕ) → nat_eq (group x) g ≡ false → now g ≡ was g) → AreSumsOf amount group (places ++ x ∷ []) now
sums_more amount group places x was now h here others g = grind (arith, eqb_tells, sum_in-append, eqb, added_to, add-zero)

module _ {S : Type 0} (lines : LineColumns) (measure : Measure) (columns : List GroupColumn) (size : ℕ) where
  pub line_added : (old new : IndexMap ℕ GroupSums S) (places : List ℕ) (x group gain loss : ℕ)
      → AreSparseTotals lines measure columns places size old → AddsLine old new group gain loss
      → group ≡ group_at columns x → gain ≡ gain_at lines measure x → loss ≡ loss_at lines measure x
      → group_at columns x < size → AreSparseTotals lines measure columns (places ++ x ∷ []) size new
  line_added old new places x group gain loss are adds group_is gain_is loss_is room = record {
    counts_are = sums_more (λ place. 1) (group_at columns) places x (λ g. (sums_in old g).count)
        (λ g. (sums_in new g).count) are.counts_are (ap (λ (s : GroupSums). s.count) here)
        (λ g e. ap (λ (s : GroupSums). s.count) (same g e));
    gains_are = sums_more (gain_at lines measure) (group_at columns) places x (λ g. (sums_in old g).gain)
        (λ g. (sums_in new g).gain) are.gains_are (ap (λ (s : GroupSums). s.gain) here)
        (λ g e. ap (λ (s : GroupSums). s.gain) (same g e));
    losses_are = sums_more (loss_at lines measure) (group_at columns) places x (λ g. (sums_in old g).loss)
        (λ g. (sums_in new g).loss) are.losses_are (ap (λ (s : GroupSums). s.loss) here)
        (λ g e. ap (λ (s : GroupSums). s.loss) (same g e));
    below = λ g sums at. known g sums at (eqb_tells group g);
    fits = λ g. fitting g (eqb_tells (group_at columns x) g);
    unique = adds.unique;
  } where
    here : sums_in new (group_at columns x) ≡ record {
      count = ((sums_in old (group_at columns x)).count + 1) % 2 ^ 64;
      gain = ((sums_in old (group_at columns x)).gain + gain_at lines measure x) % 2 ^ 64;
      loss = ((sums_in old (group_at columns x)).loss + loss_at lines measure x) % 2 ^ 64;
    }
    here = rw (← group_is, adds.grows, gain_is, loss_is) refl

    same : (g : ℕ) → nat_eq (group_at columns x) g ≡ false → sums_in new g ≡ sums_in old g
    same g e = ap (λ o. unwrap_or o nothing) (adds.others g (ap (λ (v : ℕ). nat_eq v g) group_is ∙ e))

    fitting : (g : ℕ) → ((eqb (group_at columns x) g ≡ true) × (group_at columns x ≡ g))
        ⊎ ((eqb (group_at columns x) g ≡ false) × (group_at columns x ≢ g)) → Fit64 (sums_in new g)
    fitting g (inl (_, e)) =
        subst (λ (v : ℕ). Fit64 (sums_in new v)) e (subst Fit64 (sym here) (record {
          count = mod-lt ((sums_in old (group_at columns x)).count + 1) (omega arith);
          gain = mod-lt ((sums_in old (group_at columns x)).gain + gain_at lines measure x) (omega arith);
          loss = mod-lt ((sums_in old (group_at columns x)).loss + loss_at lines measure x) (omega arith);
        }))
    fitting g (inr (e, _)) = subst Fit64 (sym (same g e)) (are.fits g)

    known : (g : ℕ) (sums : GroupSums) → get nat_eq new g ≡ Some sums → ((eqb group g ≡ true) × (group ≡ g))
        ⊎ ((eqb group g ≡ false) × (group ≢ g)) → g < size
    known g sums at (inl (_, e)) = subst (λ (v : ℕ). v < size) (sym group_is ∙ e) room
    known g sums at (inr (e, _)) = are.below g sums (sym (adds.others g e) ∙ at)
