-- Masks joined by `&`.
use Rattle.std.proofs.Common.{ℕ, ◌≡◌, ◌&&◌, List, Bool, true, false, cond, min, bit_and, refl, ◌∙◌}
use Rattle.std.proofs.lemmas.Nat.Bits.{bit_at_and}
use Rattle.ssb_questions.specs.declared.plan.Plan.{Plan}
use Rattle.scan_kernel.specs.Masks.{IsMask, MasksCombine}

min_is_and : (a b : Bool) → min (cond a 1 0) (cond b 1 0) ≡ cond (a && b) 1 0
min_is_and true true = refl
min_is_and true false = refl
min_is_and false true = refl
min_is_and false false = refl

pub mask_and : (p q : Plan → Bool) (plans : List Plan) (a b : ℕ) → IsMask p plans a → IsMask q plans b
    → IsMask (λ plan. p plan && q plan) plans (bit_and a b)
mask_and p q plans a b h k = λ j plan at. bit_at_and a b j ∙ (λ i. min (h j plan at i) (k j plan at i))
    ∙ min_is_and (p plan) (q plan)

pub masks_combine : MasksCombine
masks_combine plans c numbers customers suppliers parts dates n cs ss ps ds =
    mask_and _ _ plans _ dates (mask_and _ _ plans _ parts
    (mask_and _ _ plans _ suppliers (mask_and _ _ plans numbers customers n cs) ss) ps) ds
