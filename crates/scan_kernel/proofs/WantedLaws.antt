-- What a zone leaves out: a chunk whose summary shares no code with a question has no line that it takes.
use Rattle.std.proofs.Common.{◌≡◌, ℕ, zero, suc, ◌+◌, ◌-◌, ◌*◌, ◌/◌, ◌<◌, ◌≤◌, ◌≢◌, Bool, true, false, List, [], ◌∷◌}
use Rattle.std.proofs.Common.{◌++◌, ◌⊎◌, ◌∙◌, inl, inr, length, get_or, set, eqb, arith, refl, ap, sym, subst, bit_and, bit_or}
use Rattle.std.specs.Int.{bit_at}
use Rattle.std.specs.List.{filter, range_with_len}
use Rattle.std.proofs.lemmas.Bool.Decides.{eqb_tells}
use Rattle.std.proofs.lemmas.List.{get_or_push, get_or_append_left, get_or-set_same, get_or-set_other}
use Rattle.std.proofs.lemmas.Nat.Bits.{bit_at_and, bit_at_or, bit_at-zero, bit_at-lt}
use Rattle.scan_kernel.specs.declared.columns.LineColumns.{LineColumns}
use Rattle.scan_kernel.specs.declared.columns.Grouping.{Grouping}
use Rattle.scan_kernel.specs.declared.masks.Masks.{Masks}
use Rattle.scan_kernel.specs.declared.totals.Totals.{Totals}
use Rattle.scan_kernel.specs.declared.wanted.Wanted.{Wanted}
use Rattle.scan_kernel.specs.Places.{mask_in, mask_at, has_bit}
use Rattle.scan_kernel.specs.Totals.{AddsPlaces, AddsBatch, taken}
use Rattle.scan_kernel.specs.Masks.{questions_a_pass}
use Rattle.scan_kernel.specs.declared.wanted.CodeMasks.{CodeMasks}
use Rattle.scan_kernel.specs.declared.wanted.DimensionCodes.{DimensionCodes}
use Rattle.scan_kernel.specs.Wanted.{HasTaken, HasTakers, HasLeft, HasLeavers, HasBit, HaveTakers, HaveLeavers, HaveBit}
use Rattle.scan_kernel.specs.Wanted.{Takes, Leaves, IsWanted, AreWantedUpTo, IsLeftOut, Shares, zone_of}
use Rattle.scan_kernel.specs.Zones.{AreZonesOf, chunk_size, coarse}
use Rattle.scan_kernel.proofs.BatchLaws.{batch_none}

-- what both have is in their intersection
pub both_have : (a b i : ℕ) → bit_at a i ≡ 1 → bit_at b i ≡ 1 → bit_and a b ≢ 0
both_have a b i left right none =
    let here : bit_at (bit_and a b) i ≡ 1 = grind (arith, bit_at_and) in
    let not_here : bit_at (bit_and a b) i ≡ 0 = rw none (bit_at-zero i) in
    omega (arith, here, not_here)

pub left_has : (a b i : ℕ) → bit_at (bit_and a b) i ≡ 1 → bit_at a i ≡ 1
left_has a b i h = grind (arith, bit_at_and, bit_at-lt)

pub right_has : (a b i : ℕ) → bit_at (bit_and a b) i ≡ 1 → bit_at b i ≡ 1
right_has a b i h = grind (arith, bit_at_and, bit_at-lt)

-- a dimension of a line that question k takes
shares_code : (masks : _) (codes sets rows : List ℕ) (k set place : ℕ) → AreZonesOf codes sets rows
    → HasTaken masks codes k set → place < length rows → bit_at (mask_in masks (get_or rows place 0)) k ≡ 1
    → bit_and (get_or sets (place / chunk_size) 0) set ≢ 0
shares_code masks codes sets rows k set place zoned taken within passes =
    both_have _ _ (coarse codes (get_or rows place 0)) (zoned place within) (taken _ passes)

-- a line that question k takes has a zone that shares a code with it in each dimension
pub shares_zone : (lines : LineColumns) (masks : Masks) (k place : ℕ) (takes : DimensionCodes)
    → Takes lines masks k takes
    → place < length lines.customer.now → bit_at (mask_at lines masks place) k ≡ 1
    → Shares (zone_of lines (place / chunk_size)) takes
shares_zone lines masks k place takes h within passes =
    let all = left_has _ _ k passes in
    let three = left_has _ _ k all in
    let two = left_has _ _ k three in
    record {
      customers = shares_code masks.customers _ _ _ k takes.customers place lines.zoned_customers h.customers within
          (right_has _ _ k two);
      suppliers = shares_code masks.suppliers _ _ _ k takes.suppliers place lines.zoned_suppliers h.suppliers
          (omega (arith, within, lines.suppliers)) (right_has _ _ k three);
      parts = shares_code masks.parts _ _ _ k takes.parts place lines.zoned_parts h.parts
          (omega (arith, within, lines.parts)) (right_has _ _ k all);
      dates = shares_code masks.dates _ _ _ k takes.dates place lines.zoned_dates h.dates
          (omega (arith, within, lines.dates)) (right_has _ _ k passes);
    }

filter_none : (p : ℕ → Bool) (a n : ℕ) → ((i : ℕ) → a ≤ i → i < a + n → p i ≡ false)
    → filter p (range_with_len a n) ≡ []
filter_none p a zero out = refl
filter_none p a (suc n) out =
    rw (out a (omega arith) (omega arith))
    (filter_none p (a + 1) n (λ i from to. out i (omega (arith, from)) (omega (arith, to))))

-- so the places of a chunk that is left out add nothing
pub left_out_adds : (lines : LineColumns) (masks : Masks) (groupings : List Grouping) (totals : List Totals) (a b : ℕ)
    → a ≤ b → b ≤ length lines.customer.now → b ≤ (a / chunk_size + 1) * chunk_size
    → IsLeftOut lines masks (length groupings) (a / chunk_size)
    → AddsBatch lines masks groupings (range_with_len a (b - a)) totals totals
left_out_adds lines masks groupings totals a b order within one out k grouping t below =
    let none : taken lines masks k (range_with_len a (b - a)) ≡ [] = filter_none (has_bit lines masks k) a (b - a)
    (λ i from to. let same : i / chunk_size ≡ a / chunk_size = omega (arith, from, to, one) in
    let bit = out k i below same (omega (arith, to, within)) in rw bit refl) in
    let P : List ℕ → Type 0 = λ found. AddsPlaces lines (get_or groupings k grouping) found (get_or totals k t)
    (get_or totals k t) in
    subst P (sym none) (batch_none lines masks groupings totals k grouping t below)

-- what one question more makes of the rows
pub wanted_more : (lines : LineColumns) (masks : Masks) (count : ℕ) (all : List Wanted) (one : Wanted)
    → length all ≡ count → AreWantedUpTo lines masks count all → IsWanted lines masks count one
    → AreWantedUpTo lines masks (count + 1) (all ++ one ∷ [])
wanted_more lines masks count all one long each here k other below = split (eqb_tells k count) where
  split : ((eqb k count ≡ true) × (k ≡ count)) ⊎ ((eqb k count ≡ false) × (k ≢ count))
      → IsWanted lines masks k (get_or (all ++ one ∷ []) k other)
  split (inl both) = rw (both.1, get_or_push all one other count long) here
  split (inr both) =
      let before : k < count = omega (arith, below, both.1) in
      rw (get_or_append_left all (one ∷ []) other k (omega (arith, before, long))) (each k other before)

-- a dimension's codes of a question, where its masks by code have all bits that they are to have
pub has_taken : (masks : _) (codes takers : List ℕ) (k set : ℕ) → k < questions_a_pass → HasTakers masks codes takers
    → HasBit takers k set → HasTaken masks codes k set
has_taken masks codes takers k set few h have row passes =
    have (coarse codes row) (omega arith) (h row k few passes)

pub has_left : (masks : _) (codes leavers : List ℕ) (k set : ℕ) → k < questions_a_pass → HasLeavers masks codes leavers
    → HasBit leavers k set → HasLeft masks codes k set
has_left masks codes leavers k set few h have row is fails =
    have (coarse codes row) (omega arith) (h row k is few fails)

pub takes_of : (lines : LineColumns) (masks : Masks) (k : ℕ) (all : CodeMasks) (sets : DimensionCodes)
    → k < questions_a_pass → HaveTakers lines masks all → HaveBit all k sets → Takes lines masks k sets
takes_of lines masks k all sets few h have = record {
  customers = has_taken masks.customers _ _ k _ few h.customers have.customers;
  suppliers = has_taken masks.suppliers _ _ k _ few h.suppliers have.suppliers;
  parts = has_taken masks.parts _ _ k _ few h.parts have.parts;
  dates = has_taken masks.dates _ _ k _ few h.dates have.dates;
}

pub leaves_of : (lines : LineColumns) (masks : Masks) (k : ℕ) (all : CodeMasks) (sets : DimensionCodes)
    → k < questions_a_pass → HaveLeavers lines masks all → HaveBit all k sets → Leaves lines masks k sets
leaves_of lines masks k all sets few h have = record {
  customers = has_left masks.customers _ _ k _ few h.customers have.customers;
  suppliers = has_left masks.suppliers _ _ k _ few h.suppliers have.suppliers;
  parts = has_left masks.parts _ _ k _ few h.parts have.parts;
  dates = has_left masks.dates _ _ k _ few h.dates have.dates;
}

left_or : (a b i : ℕ) → bit_at a i ≡ 1 → bit_at (bit_or a b) i ≡ 1
left_or a b i h = grind (arith, bit_at_or, bit_at-lt)

right_or : (a b i : ℕ) → bit_at b i ≡ 1 → bit_at (bit_or a b) i ≡ 1
right_or a b i h = grind (arith, bit_at_or, bit_at-lt)

-- the masks by code with the mask of one row more
pub takers_more : (mask_of : ℕ → ℕ) (codes takers : List ℕ) (row code : ℕ) → length takers ≡ 64 → code < 64
    → code ≡ coarse codes row
    → ((r k : ℕ) → r < row → bit_at (mask_of r) k ≡ 1 → bit_at (get_or takers (coarse codes r) 0) k ≡ 1)
    → (r k : ℕ) → r < row + 1 → bit_at (mask_of r) k ≡ 1
    → bit_at (get_or (set takers code (bit_or (get_or takers code 0) (mask_of row))) (coarse codes r) 0) k ≡ 1
takers_more mask_of codes takers row code long within is before r k below passes =
    split (eqb_tells (coarse codes r) code) (eqb_tells r row) where
      mask : ℕ
      mask = bit_or (get_or takers code 0) (mask_of row)

      here : bit_at (get_or (set takers code mask) code 0) k ≡ 1 → coarse codes r ≡ code
          → bit_at (get_or (set takers code mask) (coarse codes r) 0) k ≡ 1
      here h same = subst (λ c. bit_at (get_or (set takers code mask) c 0) k ≡ 1) (sym same) h

      read : get_or (set takers code mask) code 0 ≡ mask
      read = get_or-set_same takers code mask 0 (omega (arith, long, within))

      split : ((eqb (coarse codes r) code ≡ true) × (coarse codes r ≡ code))
          ⊎ ((eqb (coarse codes r) code ≡ false) × (coarse codes r ≢ code))
          → ((eqb r row ≡ true) × (r ≡ row)) ⊎ ((eqb r row ≡ false) × (r ≢ row))
          → bit_at (get_or (set takers code mask) (coarse codes r) 0) k ≡ 1
      split (inl same) (inl last) =
          here (rw read (right_or _ _ k (subst (λ n. bit_at (mask_of n) k ≡ 1) last.1 passes))) same.1
      split (inl same) (inr earlier) =
          let old = before r k (omega (arith, below, earlier.1)) passes in
          here (rw read (left_or _ _ k (subst (λ c. bit_at (get_or takers c 0) k ≡ 1) same.1 old))) same.1
      split (inr other) (inl last) = absurd (other.1 (ap (coarse codes) last.1 ∙ sym is))
      split (inr other) (inr earlier) =
          rw (get_or-set_other takers code (coarse codes r) mask 0 other.1)
          (before r k (omega (arith, below, earlier.1)) passes)
