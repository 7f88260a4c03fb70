-- Masks as their bits are set one after another.
use Rattle.std.proofs.Common.{ℕ, ◌≡◌, ◌+◌, ◌*◌, ◌-◌, ◌%◌, ◌^◌, ◌<◌, ◌≤◌, Bool, true, false, cond, List, length, get_or}
use Rattle.std.proofs.Common.{Some, sym, refl, ap, ◌∙◌, arith, bit_or}
use Rattle.std.specs.Prelude.{slice_get}
use Rattle.std.specs.Int.{bit_at, w16}
use Rattle.std.proofs.lemmas.Nat.Bits.{bit_at_set_same, bit_at_set_other, bit_at_ones}
use Rattle.std.proofs.lemmas.Option.{slice_get_within}
use Rattle.ssb_questions.specs.declared.plan.Plan.{Plan}
use Rattle.scan_kernel.specs.Masks.{IsMask}

-- the bits of the first plans are set, and no others
pub record IsMaskUpTo (passes : Plan → Bool) (plans : List Plan) (number mask : ℕ) : Type 0 where
  pub bits : (k : ℕ) (plan : Plan) → k < number → slice_get plans k ≡ Some plan → bit_at mask k ≡ cond (passes plan) 1 0
  pub above : (k : ℕ) → number ≤ k → bit_at mask k ≡ 0

pub mask_ends : (passes : Plan → Bool) (plans : List Plan) (mask : ℕ) → IsMaskUpTo passes plans (length plans) mask
    → IsMask passes plans mask
mask_ends passes plans mask h = λ k plan at. h.bits k plan (slice_get_within plans k plan at) at

module _ (passes : Plan → Bool) (plans : List Plan) (number mask : ℕ) (this : Plan)
    (at_number : slice_get plans number ≡ Some this) (h : IsMaskUpTo passes plans number mask) where
  same_plan : (plan : Plan) → slice_get plans number ≡ Some plan → plan ≡ this
  same_plan plan e = let both : Some plan ≡ Some this = sym e ∙ at_number in cc

  -- what holds of the new place and of those before it holds of all up to it
  split : (P : ℕ → Type 0) (k : ℕ) → (k ≡ number → P k) → ((k ≡ number → ⊥) → P k) → P k
  split P k same other = grind arith

  -- a bit of the new mask, where the new bit is right and the others stay
  next : (new : ℕ) → bit_at new number ≡ cond (passes this) 1 0
      → ((k : ℕ) → (k ≡ number → ⊥) → bit_at new k ≡ bit_at mask k) → IsMaskUpTo passes plans (number + 1) new
  next new here others = grind (arith, split, same_plan)

  pub mask_sets : number < 16 → passes this ≡ true → IsMaskUpTo passes plans (number + 1)
      (bit_or mask (1 * 2 ^ number % 2 ^ 16))
  mask_sets within pass = next _ (bit_at_set_same w16 mask number within ∙ ap (λ (b : Bool). cond b 1 0) (sym pass))
      (λ k other. bit_at_set_other w16 mask number within k other)

  pub mask_stays : passes this ≡ false → IsMaskUpTo passes plans (number + 1) mask
  mask_stays pass = next mask (h.above number (omega arith) ∙ ap (λ (b : Bool). cond b 1 0) (sym pass))
      (λ k other. refl)

-- the first of some rows, or values, have their masks
pub record AreMasksUpTo {Row : Type 0} (passes : Plan → Row → Bool) (plans : List Plan) (rows : List Row) (count : ℕ)
    (masks : List ℕ) : Type 0 where
  pub len : length masks ≡ count
  pub each : (at : ℕ) (row : Row) → at < count → slice_get rows at ≡ Some row
      → IsMask (λ plan. passes plan row) plans (get_or masks at 0)

-- a mask by one test is the mask by another that says the same of the plans
pub mask_same : (passes tells : Plan → Bool) (plans : List Plan) (mask : ℕ)
    → ((k : ℕ) (plan : Plan) → slice_get plans k ≡ Some plan → passes plan ≡ tells plan) → IsMask passes plans mask
    → IsMask tells plans mask
mask_same passes tells plans mask same h = λ k plan at. h k plan at ∙ ap (λ (b : Bool). cond b 1 0) (same k plan at)

-- where every bit is set, all plans pass
pub mask_full : (passes : Plan → Bool) (plans : List Plan) → length plans ≤ 16
    → ((k : ℕ) (plan : Plan) → slice_get plans k ≡ Some plan → passes plan ≡ true) → IsMask passes plans (2 ^ 16 - 1)
mask_full passes plans few all = λ k plan at.
    let below : k < 16 = omega (arith, slice_get_within plans k plan at, few) in
    bit_at_ones 16 k below ∙ ap (λ (b : Bool). cond b 1 0) (sym (all k plan at))
