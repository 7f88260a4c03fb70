-- The totals of a batch, over one list of places after another.
use Rattle.std.proofs.Common.{◌≡◌, ℕ, ◌+◌, ◌-◌, ◌<◌, ◌≤◌, List, [], ◌∷◌, ◌++◌, ◌≢◌, ◌⊎◌, eqb}
use Rattle.std.proofs.Common.{length, get_or, arith, ap, sym, subst, ◌∙◌}
use Rattle.std.specs.List.{range_with_len}
use Rattle.std.proofs.lemmas.Bool.Decides.{eqb_tells}
use Rattle.std.proofs.lemmas.List.{get_or_default, length-replicate}
use Rattle.std.proofs.Math.ListN.{get_or-append}
use Rattle.std.proofs.Math.Seq.{get_or-append_seam}
use Rattle.std.proofs.lemmas.List.Elements.{filter-append}
use Rattle.scan_kernel.specs.declared.columns.LineColumns.{LineColumns}
use Rattle.scan_kernel.specs.declared.columns.Grouping.{Grouping}
use Rattle.scan_kernel.specs.declared.masks.Masks.{Masks}
use Rattle.scan_kernel.specs.declared.totals.Totals.{Totals}
use Rattle.scan_kernel.specs.Places.{has_bit}
use Rattle.scan_kernel.specs.Totals.{AddsPlaces, AddsBatch, HaveSizes, AreBatchTotals, AreZeros, taken}
use Rattle.scan_kernel.proofs.AddLaws.{adds_none, adds_append}
use Rattle.scan_kernel.proofs.FoundLaws.{range_on}

-- nothing is added by no places
pub batch_none : (lines : LineColumns) (masks : Masks) (groupings : List Grouping) (totals : List Totals)
    → AddsBatch lines masks groupings [] totals totals
batch_none lines masks groupings totals k grouping t below =
    record { counts_are = adds_none _ _ _; gains_are = adds_none _ _ _; losses_are = adds_none _ _ _ }

taken_append : (lines : LineColumns) (masks : Masks) (k : ℕ) (xs ys : List ℕ) → taken lines masks k xs
    ++ taken lines masks k ys ≡ taken lines masks k (xs ++ ys)
taken_append lines masks k xs ys = sym (filter-append (has_bit lines masks k) xs ys)

-- one list of places after another
pub batch_append : (lines : LineColumns) (masks : Masks) (groupings : List Grouping) (xs ys : List ℕ)
    (old mid new : List Totals)
    → AddsBatch lines masks groupings xs old mid → AddsBatch lines masks groupings ys mid new
    → AddsBatch lines masks groupings (xs ++ ys) old new
batch_append lines masks groupings xs ys old mid new h j k grouping t below =
    let first = h k grouping t below in
    let more = j k grouping t below in
    let P : List ℕ → Type 0 = λ places. AddsPlaces lines (get_or groupings k grouping) places (get_or old k t)
    (get_or new k t) in
    subst P (taken_append lines masks k xs ys) (record {
      counts_are = adds_append _ _ _ _ _ _ _ first.counts_are more.counts_are;
      gains_are = adds_append _ _ _ _ _ _ _ first.gains_are more.gains_are;
      losses_are = adds_append _ _ _ _ _ _ _ first.losses_are more.losses_are;
    })

-- one range after another
pub batch_on : (lines : LineColumns) (masks : Masks) (groupings : List Grouping) (a b e : ℕ) (old mid new : List Totals)
    → a ≤ b → b ≤ e
    → AddsBatch lines masks groupings (range_with_len a (b - a)) old mid
    → AddsBatch lines masks groupings (range_with_len b (e - b)) mid new
    → AddsBatch lines masks groupings (range_with_len a (e - a)) old new
batch_on lines masks groupings a b e old mid new le more h j =
    let P : List ℕ → Type 0 = λ places. AddsBatch lines masks groupings places old new in
    subst P (range_on a b e le more) (batch_append lines masks groupings _ _ old mid new h j)

-- adding keeps the sizes
pub sizes_kept : (lines : LineColumns) (masks : Masks) (groupings : List Grouping) (places : List ℕ)
    (old new : List Totals)
    → AddsBatch lines masks groupings places old new → length new ≡ length old → HaveSizes groupings old
    → HaveSizes groupings new
sizes_kept lines masks groupings places old new h len sizes = record {
  all = len ∙ sizes.all;
  sizes = λ k grouping t below.
      let one = h k grouping t below in
      let was = sizes.sizes k grouping t below in
      omega (arith, one.counts_are.len, was, (get_or old k t).counts.ok, (get_or new k t).counts.ok);
}

-- totals of no places, one question more
pub zeros_pushed : (groupings : List Grouping) (all : List Totals) (n : ℕ) (this : Grouping) (one : Totals)
    → length all ≡ n → this ≡ get_or groupings n this → n < length groupings → AreZeros this.size one
    → ((k : ℕ) (q : Grouping) (t : Totals) → k < n → AreZeros (get_or groupings k q).size (get_or all k t))
    → (k : ℕ) (q : Grouping) (t : Totals) → k < n + 1 → AreZeros (get_or groupings k q).size
    (get_or (all ++ one ∷ []) k t)
zeros_pushed groupings all n this one len is below zeros done k q t h = grind (arith, eqb_tells, get_or_default, get_or-append_seam, get_or-append, eqb)

pub zeros_sized : (groupings : List Grouping) (all : List Totals) → length all ≡ length groupings
    → ((k : ℕ) (q : Grouping) (t : Totals) → k < length groupings
    → AreZeros (get_or groupings k q).size (get_or all k t)) → HaveSizes groupings all
zeros_sized groupings all len zeros = record {
  all = len;
  sizes = λ k q t below.
      let size = (get_or groupings k q).size in
      let n : length (get_or all k t).counts.items ≡ size =
      ap length (zeros k q t below).counts_are ∙ length-replicate {A = ℕ} size 0 in
      omega (arith, n, (get_or all k t).counts.ok);
}

pub from_zeros : (lines : LineColumns) (masks : Masks) (groupings : List Grouping) (places : List ℕ)
    (all new : List Totals)
    → ((k : ℕ) (q : Grouping) (t : Totals) → k < length groupings
    → AreZeros (get_or groupings k q).size (get_or all k t))
    → HaveSizes groupings new → AddsBatch lines masks groupings places all new
    → AreBatchTotals lines masks groupings places new
from_zeros lines masks groupings places all new zeros sizes added = record {
  all = sizes.all;
  each = λ k q t below.
      let zero = zeros k q t below in
      let one = added k q t below in
      record {
        counts_are = rw zero.counts_are at one.counts_are;
        gains_are = rw zero.gains_are at one.gains_are;
        losses_are = rw zero.losses_are at one.losses_are;
      };
}
