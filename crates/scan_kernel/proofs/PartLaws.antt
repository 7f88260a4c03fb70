-- The totals of parts together, in whatever order they were added up.
use Rattle.std.proofs.Common.{◌≡◌, ℕ, zero, suc, ◌+◌, ◌/◌, ◌%◌, ◌^◌, ◌<◌, ◌≤◌, Bool, List, [], ◌∷◌, ◌++◌, length}
use Rattle.std.proofs.Common.{get_or, replicate, append-nil, arith, refl, ap, sym, subst, ◌∙◌}
use Rattle.std.specs.Prelude.{vec_len}
use Rattle.std.specs.List.{filter, flat_map, range_with_len, sum_by}
use Rattle.std.specs.List.Sorted.{IsPermutation}
use Rattle.std.proofs.lemmas.Grind.{flat_map-append}
use Rattle.std.proofs.lemmas.List.Elements.{filter-append}
use Rattle.std.proofs.lemmas.List.Sorted.{sum_by-IsPermutation}
use Rattle.std.proofs.lemmas.List.Sums.{sum_by-cons}
use Rattle.scan_kernel.specs.declared.columns.LineColumns.{LineColumns}
use Rattle.scan_kernel.specs.declared.columns.Grouping.{Grouping}
use Rattle.scan_kernel.specs.declared.masks.Masks.{Masks}
use Rattle.scan_kernel.specs.declared.totals.Totals.{Totals}
use Rattle.scan_kernel.specs.Parts.{bound, part_places, part_size, places_of_parts, MergesBatch}
use Rattle.scan_kernel.specs.Places.{has_bit}
use Rattle.scan_kernel.specs.Sums.{Adds, sum_in}
use Rattle.scan_kernel.specs.Totals.{AddsBatch, AddsTo, AreBatchTotals, AreZeros, HaveSizes}
use Rattle.scan_kernel.proofs.AddLaws.{adds_append, adds_merged, sum_in-append}
use Rattle.scan_kernel.proofs.FoundLaws.{range_first, range_push}
use Rattle.scan_kernel.proofs.BatchLaws.{batch_none, zeros_sized, from_zeros}

-- two lists of places together
pub batch_merged : (lines : LineColumns) (masks : Masks) (groupings : List Grouping) (xs ys : List ℕ)
    (left right new : List Totals)
    → AreBatchTotals lines masks groupings xs left → AreBatchTotals lines masks groupings ys right
    → length new ≡ length left → MergesBatch (length left) left right new
    → AreBatchTotals lines masks groupings (xs ++ ys) new
batch_merged lines masks groupings xs ys left right new h j len merges = record {
  all = len ∙ h.all;
  each = λ k q t below.
      let within : k < length left = omega (arith, below, h.all) in
      let one = h.each k q t below in
      let other = j.each k q t below in
      let both = merges k t t within in
      let P : List ℕ → Type 0 = λ places. AreTotalsOver (get_or groupings k q) places (get_or new k t) in
      subst P (sym (filter-append (has_bit lines masks k) xs ys)) (record {
        counts_are = adds_merged _ _ _ _ _ _ _ _ one.counts_are other.counts_are both.counts_are;
        gains_are = adds_merged _ _ _ _ _ _ _ _ one.gains_are other.gains_are both.gains_are;
        losses_are = adds_merged _ _ _ _ _ _ _ _ one.losses_are other.losses_are both.losses_are;
      });
} where
  AreTotalsOver : Grouping → List ℕ → Totals → Type 0
  AreTotalsOver q places t = AddsTo lines q places (replicate q.size 0) (replicate q.size 0) (replicate q.size 0) t

element : {A : Type 0} (xs : List A) (k : ℕ) → k < length xs → A
element [] k below = absurd (omega (arith, below))
element (x ∷ xs) k below = x

-- totals over any places have a number for each group
pub merge_sizes : (lines : LineColumns) (masks : Masks) (groupings : List Grouping) (xs ys : List ℕ)
    (left right : List Totals)
    → AreBatchTotals lines masks groupings xs left → AreBatchTotals lines masks groupings ys right
    → (k : ℕ) (r t : Totals) → k < length left → vec_len (get_or right k r).counts ≡ vec_len (get_or left k t).counts
merge_sizes lines masks groupings xs ys left right h j k r t below =
    let within : k < length groupings = omega (arith, below, h.all) in
    let q = element groupings k within in
    omega (
      arith,
      (h.each k q t within).counts_are.len,
      (j.each k q r within).counts_are.len,
      (get_or right k r).counts.ok,
      (get_or left k t).counts.ok,
    )

-- totals of no places
pub no_places : (lines : LineColumns) (masks : Masks) (groupings : List Grouping) (all : List Totals)
    → length all ≡ length groupings
    → ((k : ℕ) (q : Grouping) (t : Totals) → k < length groupings
    → AreZeros (get_or groupings k q).size (get_or all k t)) → AreBatchTotals lines masks groupings [] all
no_places lines masks groupings all len zeros =
    from_zeros lines masks groupings [] all all zeros (zeros_sized groupings all len zeros)
    (batch_none lines masks groupings all)

-- more places are added to totals
pub batch_more : (lines : LineColumns) (masks : Masks) (groupings : List Grouping) (xs ys : List ℕ)
    (old new : List Totals)
    → AreBatchTotals lines masks groupings xs old → AddsBatch lines masks groupings ys old new
    → HaveSizes groupings new → AreBatchTotals lines masks groupings (xs ++ ys) new
batch_more lines masks groupings xs ys old new h j sizes = record {
  all = sizes.all;
  each = λ k q t below.
      let one = h.each k q t below in
      let more = j k q t below in
      let P : List ℕ → Type 0 = λ places. AreTotalsOver (get_or groupings k q) places (get_or new k t) in
      subst P (sym (filter-append (has_bit lines masks k) xs ys)) (record {
        counts_are = adds_append _ _ _ _ _ _ _ one.counts_are more.counts_are;
        gains_are = adds_append _ _ _ _ _ _ _ one.gains_are more.gains_are;
        losses_are = adds_append _ _ _ _ _ _ _ one.losses_are more.losses_are;
      });
} where
  AreTotalsOver : Grouping → List ℕ → Totals → Type 0
  AreTotalsOver q places t = AddsTo lines q places (replicate q.size 0) (replicate q.size 0) (replicate q.size 0) t

-- Parts, in any order.

-- a sum over places is that of the sums of the parts
sum_of_parts : (amount group : ℕ → ℕ) (p : ℕ → Bool) (places : ℕ → List ℕ) (g : ℕ) (parts : List ℕ)
    → sum_in amount group g (filter p (flat_map places parts)) ≡ sum_by
    (λ part. sum_in amount group g (filter p (places part))) parts
sum_of_parts amount group p places g [] = refl
sum_of_parts amount group p places g (part ∷ parts) =
    ap (sum_in amount group g) (filter-append p (places part) (flat_map places parts))
    ∙ sum_in-append amount group g (filter p (places part)) (filter p (flat_map places parts))
    ∙ ap (λ (s : ℕ). sum_in amount group g (filter p (places part)) + s) (sum_of_parts amount group p places g parts)
    ∙ sym (sum_by-cons (λ one. sum_in amount group g (filter p (places one))) part parts)

adds_rearranged : (amount group : ℕ → ℕ) (p : ℕ → Bool) (places : ℕ → List ℕ) (xs ys old new : List ℕ)
    → IsPermutation xs ys → Adds amount group (filter p (flat_map places xs)) old new
    → Adds amount group (filter p (flat_map places ys)) old new
adds_rearranged amount group p places xs ys old new same adds = grind (arith, sum_of_parts, sum_by-IsPermutation)

pub batch_rearranged : (lines : LineColumns) (masks : Masks) (groupings : List Grouping) (n : ℕ) (xs ys : List ℕ)
    (totals : List Totals) → IsPermutation xs ys
    → AreBatchTotals lines masks groupings (places_of_parts n xs) totals
    → AreBatchTotals lines masks groupings (places_of_parts n ys) totals
batch_rearranged lines masks groupings n xs ys totals same are = record {
  all = are.all;
  each = λ k q t below.
      let one = are.each k q t below in
      let bit = has_bit lines masks k in
      record {
        counts_are = adds_rearranged _ _ bit (part_places n) xs ys _ _ same one.counts_are;
        gains_are = adds_rearranged _ _ bit (part_places n) xs ys _ _ same one.gains_are;
        losses_are = adds_rearranged _ _ bit (part_places n) xs ys _ _ same one.losses_are;
      };
}

-- one part more
pub places_push : (n : ℕ) (parts : List ℕ) (part : ℕ)
    → places_of_parts n (parts ++ part ∷ []) ≡ places_of_parts n parts ++ part_places n part
places_push n parts part = flat_map-append (part_places n) parts (part ∷ [])
    ∙ ap (λ (ps : List ℕ). places_of_parts n parts ++ ps) (append-nil (part_places n part))

-- the first parts, in order, are the first places
first_parts : (n k : ℕ) → places_of_parts n (range_with_len 0 k) ≡ range_with_len 0 (bound n k)
first_parts n zero =
    let none : 0 ≡ bound n 0 = omega arith in ap (range_with_len 0) none
first_parts n (suc k) =
    let next : suc k ≡ k + 1 = omega arith in
    let grows : bound n k ≤ bound n (k + 1) = omega arith in
    let more : range_with_len 0 (k + 1) ≡ range_with_len 0 k ++ k ∷ [] = range_push k in
    subst (λ m. places_of_parts n (range_with_len 0 m) ≡ range_with_len 0 (bound n m)) (sym next)
    (ap (places_of_parts n) more ∙ places_push n (range_with_len 0 k) k
    ∙ ap (λ (ps : List ℕ). ps ++ part_places n k) (first_parts n k) ∙ range_first (bound n k) (bound n (k + 1)) grows)

pub all_parts : (n : ℕ) → places_of_parts n (range_with_len 0 (n / part_size + 1)) ≡ range_with_len 0 n
all_parts n =
    let all : bound n (n / part_size + 1) ≡ n = omega arith in
    first_parts n (n / part_size + 1) ∙ ap (range_with_len 0) all
