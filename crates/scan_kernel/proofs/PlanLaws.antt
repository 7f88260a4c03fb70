-- What is settled of a chunk: where each line of it passes all active questions in a dimension, its masks need not be
-- looked at.
use Rattle.std.proofs.Common.{◌≡◌, ◌≢◌, ◌⊎◌, inl, inr, ℕ, zero, suc, ◌+◌, ◌-◌, ◌/◌, ◌^◌, ◌<◌, ◌≤◌, ◌∙◌, min, Bool}
use Rattle.std.proofs.Common.{true, false, cond, List, length, get_or, eqb, bit_and, refl, ap, sym, subst, arith}
use Rattle.std.proofs.Common.{Option, Some, None, ◌∷◌, map, ltb}
use Rattle.std.specs.Int.{bit_at, w16}
use Rattle.std.specs.List.{filter, range_with_len}
use Rattle.std.proofs.lemmas.Bool.Decides.{eqb_tells}
use Rattle.std.proofs.lemmas.List.{get_or_default}
use Rattle.std.proofs.lemmas.Nat.{and_le_l}
use Rattle.std.proofs.lemmas.Nat.Bits.{bit_at_and, bit_at-zero, bit_at-lt, bit_at_ones, bit_at_set_same, bit_at_set_other}
use Rattle.std.proofs.lemmas.Nat.Bits.{same_from_bits_below}
use Rattle.scan_kernel.specs.declared.columns.LineColumns.{LineColumns}
use Rattle.scan_kernel.specs.declared.masks.Masks.{Masks}
use Rattle.scan_kernel.specs.declared.plan.ChunkPlan.{ChunkPlan}
use Rattle.scan_kernel.specs.declared.plan.TestedDimensions.{TestedDimensions}
use Rattle.scan_kernel.specs.declared.wanted.DimensionCodes.{DimensionCodes}
use Rattle.scan_kernel.specs.declared.wanted.Wanted.{Wanted}
use Rattle.scan_kernel.specs.Masks.{questions_a_pass}
use Rattle.scan_kernel.specs.Places.{CanSearch, Covers, IsSearchBy, mask_in, mask_at}
use Rattle.scan_kernel.specs.Plan.{AreSettled, LooksAtAll, Suffices, active_mask_at, looked_at, seen, with_bit}
use Rattle.scan_kernel.specs.Wanted.{AreWanted, HasLeft, IsLeftOut, IsRow, Shares, zone_of}
use Rattle.scan_kernel.specs.Zones.{AreZonesOf, chunk_size, coarse}
use Rattle.scan_kernel.proofs.WantedLaws.{both_have, shares_zone}

-- of the first questions it is known which are active, and of these which dimensions are settled
pub record AreDecided (zone : DimensionCodes) (all : List Wanted) (count : ℕ) (plan : ChunkPlan) : Type 0 where
  pub later : (k : ℕ) → count ≤ k → bit_at plan.active k ≡ 0
  pub out : (k : ℕ) (one : Wanted) → k < count → bit_at plan.active k ≡ 0 → Shares zone (get_or all k one).takes → ⊥
  pub settled : (k : ℕ) (one : Wanted) → k < count → bit_at plan.active k ≡ 1
      → AreSettled plan.looks_at zone (get_or all k one).leaves

zero_or_one : (mask k : ℕ) → (bit_at mask k ≡ 0) ⊎ (bit_at mask k ≡ 1)
zero_or_one mask k = let low = bit_at-lt mask k in go (bit_at mask k) low where
  go : (bit : ℕ) → bit < 2 → (bit ≡ 0) ⊎ (bit ≡ 1)
  go bit low = grind arith

settled_on : (old new : TestedDimensions) (zone leaves : DimensionCodes) → LooksAtAll old new
    → AreSettled old zone leaves → AreSettled new zone leaves
settled_on old new zone leaves kept h = record {
  customers = λ e. h.customers (kept.customers e);
  suppliers = λ e. h.suppliers (kept.suppliers e);
  parts = λ e. h.parts (kept.parts e);
  dates = λ e. h.dates (kept.dates e);
}

-- of a question where there is none
abbrev pub no_wanted : Wanted
no_wanted = record {
  takes = record { customers = 0; suppliers = 0; parts = 0; dates = 0 };
  leaves = record { customers = 0; suppliers = 0; parts = 0; dates = 0 };
}

-- a question more, which is active
pub decided_with : (zone : DimensionCodes) (all : List Wanted) (count : ℕ) (old new : ChunkPlan)
    → count < questions_a_pass → count < length all → AreDecided zone all count old
    → new.active ≡ with_bit old.active count → AreSettled new.looks_at zone (get_or all count no_wanted).leaves
    → LooksAtAll old.looks_at new.looks_at → AreDecided zone all (count + 1) new
decided_with zone all count old new few within h bits settled kept = record {
  later = λ k from. other k (omega (arith, from)) ∙ h.later k (omega (arith, from));
  out = λ k one below unset. split_out k one below unset (eqb_tells k count);
  settled = λ k one below set. split k one below set (eqb_tells k count);
} where
  same : bit_at new.active count ≡ 1
  same = ap (λ m. bit_at m count) bits ∙ bit_at_set_same w16 old.active count few

  other : (k : ℕ) → k ≢ count → bit_at new.active k ≡ bit_at old.active k
  other k apart = ap (λ m. bit_at m k) bits ∙ bit_at_set_other w16 old.active count few k apart

  split_out : (k : ℕ) (one : Wanted) → k < count + 1 → bit_at new.active k ≡ 0
      → ((eqb k count ≡ true) × (k ≡ count)) ⊎ ((eqb k count ≡ false) × (k ≢ count))
      → Shares zone (get_or all k one).takes → ⊥
  split_out k one below unset (inl both) =
      absurd (omega (arith, same, ap (bit_at new.active) (sym both.1) ∙ unset))
  split_out k one below unset (inr both) =
      h.out k one (omega (arith, below, both.1)) (sym (other k both.1) ∙ unset)

  split : (k : ℕ) (one : Wanted) → k < count + 1 → bit_at new.active k ≡ 1
      → ((eqb k count ≡ true) × (k ≡ count)) ⊎ ((eqb k count ≡ false) × (k ≢ count))
      → AreSettled new.looks_at zone (get_or all k one).leaves
  split k one below set (inl both) =
      let read : get_or all count no_wanted ≡ get_or all k one =
      get_or_default all count no_wanted one within ∙ ap (λ n. get_or all n one) (sym both.1) in
      subst (λ (w : Wanted). AreSettled new.looks_at zone w.leaves) read settled
  split k one below set (inr both) =
      settled_on old.looks_at new.looks_at zone (get_or all k one).leaves kept
      (h.settled k one (omega (arith, below, both.1)) (sym (other k both.1) ∙ set))

-- a question more, which takes no line of the chunk
pub decided_without : (zone : DimensionCodes) (all : List Wanted) (count : ℕ) (plan : ChunkPlan) → count < length all
    → AreDecided zone all count plan → (Shares zone (get_or all count no_wanted).takes → ⊥)
    → AreDecided zone all (count + 1) plan
decided_without zone all count plan within h none = record {
  later = λ k from. h.later k (omega (arith, from));
  out = λ k one below unset. split_out k one below unset (eqb_tells k count);
  settled = λ k one below set. split k one below set (eqb_tells k count);
} where
  split_out : (k : ℕ) (one : Wanted) → k < count + 1 → bit_at plan.active k ≡ 0
      → ((eqb k count ≡ true) × (k ≡ count)) ⊎ ((eqb k count ≡ false) × (k ≢ count))
      → Shares zone (get_or all k one).takes → ⊥
  split_out k one below unset (inl both) =
      let read : get_or all count no_wanted ≡ get_or all k one =
      get_or_default all count no_wanted one within ∙ ap (λ n. get_or all n one) (sym both.1) in
      λ shares. none (subst (λ (w : Wanted). Shares zone w.takes) (sym read) shares)
  split_out k one below unset (inr both) = h.out k one (omega (arith, below, both.1)) unset

  split : (k : ℕ) (one : Wanted) → k < count + 1 → bit_at plan.active k ≡ 1
      → ((eqb k count ≡ true) × (k ≡ count)) ⊎ ((eqb k count ≡ false) × (k ≢ count))
      → AreSettled plan.looks_at zone (get_or all k one).leaves
  split k one below set (inl both) =
      absurd (omega (arith, h.later count (omega arith), ap (bit_at plan.active) (sym both.1) ∙ set))
  split k one below set (inr both) = h.settled k one (omega (arith, below, both.1)) set

-- a row of a chunk passes a question that leaves out no row of the zone
passes_all : (masks : Option (List ℕ)) (codes sets rows : List ℕ) (k set place : ℕ) → AreZonesOf codes sets rows
    → HasLeft masks codes k set → place < length rows → IsRow masks (get_or rows place 0)
    → bit_and (get_or sets (place / chunk_size) 0) set ≡ 0 → bit_at (mask_in masks (get_or rows place 0)) k ≡ 1
passes_all masks codes sets rows k set place zoned left within is none = go (zero_or_one _ k) where
  go : (bit_at (mask_in masks (get_or rows place 0)) k ≡ 0) ⊎ (bit_at (mask_in masks (get_or rows place 0)) k ≡ 1)
      → bit_at (mask_in masks (get_or rows place 0)) k ≡ 1
  go (inl fails) =
      absurd (both_have _ _ (coarse codes (get_or rows place 0)) (zoned place within) (left _ is fails) none)
  go (inr passes) = passes

-- so it does not matter whether its mask is looked at
seen_bit : (masks : Option (List ℕ)) (looks : Bool) (row k : ℕ) → k < questions_a_pass
    → (looks ≡ false → bit_at (mask_in masks row) k ≡ 1)
    → bit_at (mask_in (seen looks masks) row) k ≡ bit_at (mask_in masks row) k
seen_bit masks true row k few passes = refl
seen_bit masks false row k few passes = bit_at_ones 16 k few ∙ sym (passes refl)

is_row : (masks : Option (List ℕ)) (rows : List ℕ) (place : ℕ) → Covers masks rows → place < length rows
    → IsRow masks (get_or rows place 0)
is_row None rows place covers within = tt
is_row (Some masks) rows place covers within = covers place 0 within

and_bits : (a b c d : ℕ) (k : ℕ) → bit_at a k ≡ bit_at b k → bit_at c k ≡ bit_at d k
    → bit_at (bit_and a c) k ≡ bit_at (bit_and b d) k
and_bits a b c d k left right = bit_at_and a c k ∙ (λ i. min (left i) (right i)) ∙ sym (bit_at_and b d k)

-- the plan's masks say of each question what the masks say
pub suffices : (lines : LineColumns) (masks : Masks) (all : List Wanted) (chunk : ℕ) (plan : ChunkPlan)
    → AreWanted lines masks all → CanSearch lines masks
    → AreDecided (zone_of lines chunk) all questions_a_pass plan → Suffices lines masks chunk plan
suffices lines masks all chunk plan wanted covers decided place here within k few = go (zero_or_one plan.active k) where
  own : Wanted
  own = get_or all k no_wanted

  active : bit_at (active_mask_at lines (looked_at plan.looks_at masks) plan.active place) k
      ≡ min (bit_at plan.active k) (bit_at (mask_at lines (looked_at plan.looks_at masks) place) k)
  active = bit_at_and plan.active (mask_at lines (looked_at plan.looks_at masks) place) k

  min_zero : (a b : ℕ) → a ≡ 0 → min a b ≡ 0
  min_zero a b e = grind arith

  min_one : (a b : ℕ) → a ≡ 1 → b < 2 → min a b ≡ b
  min_one a b e low = grind arith

  inactive : bit_at plan.active k ≡ 0 → (bit_at (mask_at lines masks place) k ≡ 0) ⊎ (bit_at (mask_at lines masks place) k ≡ 1)
      → bit_at (mask_at lines masks place) k ≡ 0
  inactive unset (inl none) = none
  inactive unset (inr passes) =
      absurd (decided.out k no_wanted few unset (subst (λ c. Shares (zone_of lines c) own.takes) here
      (shares_zone lines masks k place own.takes (wanted.each k no_wanted few).takes within passes)))

  zone_at : (sets : List ℕ) (set : ℕ) → bit_and (get_or sets chunk 0) set ≡ 0
      → bit_and (get_or sets (place / chunk_size) 0) set ≡ 0
  zone_at sets set none = ap (λ c. bit_and (get_or sets c 0) set) here ∙ none

  set_bit : bit_at plan.active k ≡ 1
      → bit_at (mask_at lines (looked_at plan.looks_at masks) place) k ≡ bit_at (mask_at lines masks place) k
  set_bit set =
      let is = decided.settled k no_wanted few set in
      let left = (wanted.each k no_wanted few).leaves in
      let supplier_within : place < length lines.supplier.now = omega (arith, within, lines.suppliers) in
      let part_within : place < length lines.part.now = omega (arith, within, lines.parts) in
      let date_within : place < length lines.date.now = omega (arith, within, lines.dates) in
      and_bits _ _ _ _ k (and_bits _ _ _ _ k (and_bits _ _ _ _ k (and_bits _ _ _ _ k refl
      (seen_bit masks.customers plan.looks_at.customers _ k few (λ e. passes_all masks.customers _ _ _ k own.leaves.customers
      place lines.zoned_customers left.customers within (is_row masks.customers _ place covers.customers within)
      (zone_at lines.customer_zones.sets.now own.leaves.customers (is.customers e)))))
      (seen_bit masks.suppliers plan.looks_at.suppliers _ k few (λ e. passes_all masks.suppliers _ _ _ k own.leaves.suppliers
      place lines.zoned_suppliers left.suppliers supplier_within
      (is_row masks.suppliers _ place covers.suppliers supplier_within)
      (zone_at lines.supplier_zones.sets.now own.leaves.suppliers (is.suppliers e)))))
      (seen_bit masks.parts plan.looks_at.parts _ k few (λ e. passes_all masks.parts _ _ _ k own.leaves.parts
      place lines.zoned_parts left.parts part_within (is_row masks.parts _ place covers.parts part_within)
      (zone_at lines.part_zones.sets.now own.leaves.parts (is.parts e)))))
      (seen_bit masks.dates plan.looks_at.dates _ k few (λ e. passes_all masks.dates _ _ _ k own.leaves.dates
      place lines.zoned_dates left.dates date_within (is_row masks.dates _ place covers.dates date_within)
      (zone_at lines.date_zones.sets.now own.leaves.dates (is.dates e))))

  go : (bit_at plan.active k ≡ 0) ⊎ (bit_at plan.active k ≡ 1)
      → bit_at (active_mask_at lines (looked_at plan.looks_at masks) plan.active place) k ≡ bit_at (mask_at lines masks place) k
  go (inl unset) =
      active ∙ min_zero _ _ unset ∙ sym (inactive unset (zero_or_one (mask_at lines masks place) k))
  go (inr set) =
      active ∙ min_one _ _ set (bit_at-lt (mask_at lines (looked_at plan.looks_at masks) place) k) ∙ set_bit set

-- where no question is active, none takes a line of the chunk
pub none_active : (lines : LineColumns) (masks : Masks) (chunk count : ℕ) (plan : ChunkPlan)
    → Suffices lines masks chunk plan → count ≤ questions_a_pass → plan.active ≡ 0 → IsLeftOut lines masks count chunk
none_active lines masks chunk count plan h few none k place below here within =
    let bits = h place here within k (omega (arith, below, few)) in
    let zero : bit_at plan.active k ≡ 0 = ap (λ m. bit_at m k) none ∙ bit_at-zero k in
    let both = bit_at_and plan.active (mask_at lines (looked_at plan.looks_at masks) place) k in
    sym bits ∙ both ∙ least _ _ zero
  where
    least : (a b : ℕ) → a ≡ 0 → min a b ≡ 0
    least a b e = grind arith

-- masks that say the same of each question are the same
pub same_masks : (active mask own : ℕ) → active < 2 ^ 16 → own < 2 ^ 16
    → ((k : ℕ) → k < questions_a_pass → bit_at (bit_and active mask) k ≡ bit_at own k) → bit_and active mask ≡ own
same_masks active mask own small few bits =
    same_from_bits_below 16 (bit_and active mask) own (omega (arith, and_le_l active mask, small)) few bits

pub mask_small : (lines : LineColumns) (masks : Masks) (place : ℕ)
    → ((term : ℕ) → get_or masks.terms term 0 < 2 ^ 16) → mask_at lines masks place < 2 ^ 16
mask_small lines masks place small =
    let terms = get_or masks.terms (get_or lines.terms.now place 0) 0 in
    let customers = mask_in masks.customers (get_or lines.customer.now place 0) in
    let suppliers = mask_in masks.suppliers (get_or lines.supplier.now place 0) in
    let parts = mask_in masks.parts (get_or lines.part.now place 0) in
    let dates = mask_in masks.dates (get_or lines.date.now place 0) in
    omega (
      arith,
      and_le_l terms customers,
      and_le_l (bit_and terms customers) suppliers,
      and_le_l (bit_and (bit_and terms customers) suppliers) parts,
      and_le_l (bit_and (bit_and (bit_and terms customers) suppliers) parts) dates,
      small (get_or lines.terms.now place 0),
    )

filter_same : (f g : ℕ → ℕ) (a n : ℕ) → ((i : ℕ) → a ≤ i → i < a + n → f i ≡ g i)
    → filter (λ i. ltb 0 (f i)) (range_with_len a n) ≡ filter (λ i. ltb 0 (g i)) (range_with_len a n)
filter_same f g a zero same = refl
filter_same f g a (suc n) same =
    let rest = filter_same f g (a + 1) n (λ i from to. same i (omega (arith, from)) (omega (arith, to))) in
    let here = same a (omega arith) (omega arith) in
    λ i. cond (ltb 0 (here i)) (a ∷ rest i) (rest i)

map_same : (p : ℕ → Bool) (f g : ℕ → ℕ) (a n : ℕ) → ((i : ℕ) → a ≤ i → i < a + n → f i ≡ g i)
    → map f (filter p (range_with_len a n)) ≡ map g (filter p (range_with_len a n))
map_same p f g a zero same = refl
map_same p f g a (suc n) same =
    one _ (p a) (same a (omega arith) (omega arith))
    (map_same p f g (a + 1) n (λ i from to. same i (omega (arith, from)) (omega (arith, to))))
  where
    one : (xs : List ℕ) (b : Bool) → f a ≡ g a → map f xs ≡ map g xs → map f (cond b (a ∷ xs) xs) ≡ map g (cond b (a ∷ xs) xs)
    one xs true here rest = λ i. here i ∷ rest i
    one xs false here rest = rest

-- a search by masks that are the same at each place
pub search_same : (f g : ℕ → ℕ) (from to count : ℕ) (old_places places old_found found : List ℕ) → from ≤ to
    → ((i : ℕ) → from ≤ i → i < to → f i ≡ g i) → IsSearchBy f from to count old_places places old_found found
    → IsSearchBy g from to count old_places places old_found found
search_same f g from to count old_places places old_found found order same h =
    let alike = λ (i : ℕ) (low : from ≤ i) (high : i < from + (to - from)). same i low (omega (arith, high, order)) in
    let here = filter_same f g from (to - from) alike in
    record {
      room = h.room;
      marks = h.marks;
      within = h.within;
      are_found = h.are_found ∙ here;
      have_masks = h.have_masks ∙ ap (map f) h.are_found
          ∙ map_same (λ i. ltb 0 (f i)) f g from (to - from) alike ∙ ap (map g) (sym h.are_found);
    }
