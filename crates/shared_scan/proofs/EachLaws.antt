-- What holds of each item of a list and its index, one item after another.
use Rattle.std.proofs.Common.{ℕ, ◌≡◌, ◌≢◌, ◌+◌, ◌<◌, List, [], ◌∷◌, ◌++◌, length, get_or, eqb, ap}
use Rattle.std.proofs.Common.{◌∙◌, arith, ◌⊎◌}
use Rattle.std.proofs.lemmas.Bool.Decides.{eqb_tells}
use Rattle.std.proofs.Math.ListN.{get_or-append}
use Rattle.std.proofs.Math.Seq.{get_or-append_seam}

-- some item of a list that has one
abbrev pub item_of : {A : Type 0} (xs : List A) (k : ℕ) → k < length xs → A
item_of [] k below = absurd (omega (arith, below))
item_of (x ∷ xs) k below = x

pub each_more : {B : Type 0} (P : ℕ → B → Type 0) (ys : List B) (n : ℕ) (y : B) → length ys ≡ n → P n y
    → ((k : ℕ) (b : B) → k < n → P k (get_or ys k b)) → (k : ℕ) (b : B) → k < n + 1 → P k (get_or (ys ++ y ∷ []) k b)
each_more {B} P ys n y len here before k b h = grind (arith, eqb_tells, get_or-append_seam, get_or-append, eqb)
