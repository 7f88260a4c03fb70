-- The sums of the groups that lines have are those of a question.
use Rattle.std.proofs.Common.{ℕ, ◌≡◌, ◌+◌, ◌<◌, ◌≤◌, ◌^◌, List, [], ◌∷◌, ◌++◌, length, map, take, get_or, Some}
use Rattle.std.proofs.Common.{sym, ap, ◌∙◌, subst, arith}
use Rattle.std.specs.Prelude.{nat_eq, slice_get, unwrap_or}
use Rattle.std.specs.List.{All}
use Rattle.std.specs.Map.{keys_of, values_of, lookup}
use Rattle.std.specs.Cmp.{IsEquivalence}
use Rattle.std.proofs.lemmas.List.{take_more, map-append, length-map, get_or-map}
use Rattle.std.proofs.lemmas.Map.Entries.{lookup_from_place}
use Rattle.std.proofs.lemmas.Option.{get_or_from_slice_get, slice_get-get_or, slice_get_within}
use Rattle.indexmap.specs.IndexMap.{IndexMap, get, keys, IsUnique}
use Rattle.ssb_questions.specs.declared.plan.Measure.{Measure}
use Rattle.scan_kernel.specs.declared.columns.LineColumns.{LineColumns}
use Rattle.scan_kernel.specs.declared.columns.GroupColumn.{GroupColumn}
use Rattle.scan_kernel.specs.declared.masks.Masks.{Masks}
use Rattle.scan_kernel.specs.declared.sparse.SparseColumn.{SparseColumn}
use Rattle.scan_kernel.specs.declared.sparse.GroupSums.{GroupSums}
use Rattle.scan_kernel.specs.Places.{group_at}
use Rattle.scan_kernel.specs.Totals.{taken}
use Rattle.scan_kernel.specs.Sparse.{as_group_column, as_group_columns, nothing, sums_in, AreSumsOf, AreSparseTotals}
use Rattle.scan_kernel.specs.SparseRows.{beside}
use Rattle.shared_scan.specs.Summed.{IsSummed, AreSummed}
use Rattle.shared_scan.proofs.EachLaws.{item_of}

-- one entry more
pub entry_more : {X : Type 0} (f : ℕ × GroupSums → X) (es : List (ℕ × GroupSums)) (i : ℕ) (e : ℕ × GroupSums)
    → slice_get es i ≡ Some e → map f (take (i + 1) es) ≡ map f (take i es) ++ f e ∷ []
entry_more f es i e at =
    ap (map f) (take_more es i e (slice_get_within es i e at)
    ∙ ap (λ (v : ℕ × GroupSums). take i es ++ v ∷ []) (get_or_from_slice_get es i e e at))
    ∙ map-append f (take i es) (e ∷ [])

pub value_more : {X : Type 0} (f : GroupSums → X) (es : List (ℕ × GroupSums)) (i : ℕ) (e : ℕ × GroupSums)
    → slice_get es i ≡ Some e → map f (values_of (take (i + 1) es)) ≡ map f (values_of (take i es)) ++ f e.1 ∷ []
value_more f es i e at = ap (map f) (entry_more (λ p. p.1) es i e at) ∙ map-append f (values_of (take i es)) (e.1 ∷ [])

-- beside a number stands what the map has for it
pub beside_is : {X : Type 0} (f : GroupSums → X) (es : List (ℕ × GroupSums)) (g : ℕ)
    → beside (f nothing) (keys_of es) (map f (values_of es)) g ≡ f (unwrap_or (lookup (nat_eq g) es) nothing)
beside_is f [] g = grind arith
beside_is f (e ∷ es) g = grind (arith, beside_is f es g)

pub all_unmapped : (P : GroupColumn → Type 0) (xs : List SparseColumn) → All P (as_group_columns xs)
    → All (λ x. P (as_group_column x)) xs
all_unmapped P xs all i d below =
    let inside : i < length (as_group_columns xs) = omega (arith, below, length-map xs as_group_column) in
    subst P (get_or-map as_group_column xs i d (as_group_column d) below) (all i (as_group_column d) inside)

module _ {S : Type 0} (totals : IndexMap ℕ GroupSums S) (size : ℕ) where
  pub keys_below : IsEquivalence nat_eq → IsUnique nat_eq totals
      → ((g : ℕ) (sums : GroupSums) → get nat_eq totals g ≡ Some sums → g < size) → All (λ n. n < size) (keys totals)
  keys_below laws unique below i d inside =
      let there : i < length totals.entries = omega (arith, inside, length-map totals.entries (λ p. p.0)) in
      let e : ℕ × GroupSums = item_of totals.entries i there in
      let at = get_or totals.entries i e in
      let found = lookup_from_place laws totals.entries i at.0 at.1 unique (slice_get-get_or totals.entries i e there)
      in
      subst (λ (n : ℕ). n < size) (sym (get_or-map (λ p. p.0) totals.entries i e d there)) (below at.0 at.1 found)

  -- no sums are beyond the size
  module _ (lines : LineColumns) (masks : Masks) (k : ℕ) (measure : Measure) (groups : List GroupColumn)
      (places : List ℕ) (are : AreSparseTotals lines measure groups (taken lines masks k places) size totals) where
    none_past : (g : ℕ) → size ≤ g → sums_in totals g ≡ nothing
    none_past g past = grind arith

    one_summed : (amount : ℕ → ℕ) (of : GroupSums → ℕ) → of nothing ≡ 0
        → AreSumsOf amount (group_at groups) (taken lines masks k places) (λ g. of (sums_in totals g))
        → ((g : ℕ) → of (sums_in totals g) < 2 ^ 64)
        → IsSummed amount (group_at groups) size (taken lines masks k places) (λ g. of (sums_in totals g))
    one_summed amount of zero sums fits = grind (arith, none_past)

    pub summed_sparse : AreSummed lines masks k measure groups size places (λ g. (sums_in totals g).count)
        (λ g. (sums_in totals g).gain) (λ g. (sums_in totals g).loss)
    summed_sparse = grind (arith, one_summed)
