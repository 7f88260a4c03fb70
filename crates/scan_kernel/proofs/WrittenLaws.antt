-- A loop that writes the elements of a list one after another.
use Rattle.std.proofs.Common.{◌≡◌, ℕ, ◌+◌, ◌<◌, ◌≤◌, ◌≢◌, ◌⊎◌, List, length, get_or, set, eqb}
use Rattle.std.proofs.Common.{arith, ◌∙◌}
use Rattle.std.proofs.lemmas.Bool.Decides.{eqb_tells}
use Rattle.std.proofs.lemmas.List.{get_or-set_other, get_or_default}
use Rattle.std.proofs.lemmas.Grind.{get_or-set_at}

-- One more element is written, and stands in the relation P to the old one and to the element of the other list.
pub written_more : {A B : Type 0} (P : ℕ → A → B → B → Type 0) (qs : List A) (old mid : List B) (n : ℕ) (q0 : A)
    (t0 x : B) → n < length qs → n < length mid → n < length old
    → ((k : ℕ) (q : A) (t : B) → k < n → P k (get_or qs k q) (get_or old k t) (get_or mid k t))
    → ((k : ℕ) (t : B) → n ≤ k → get_or mid k t ≡ get_or old k t)
    → P n (get_or qs n q0) (get_or mid n t0) x
    → (k : ℕ) (q : A) (t : B) → k < n + 1 → P k (get_or qs k q) (get_or old k t) (get_or (set mid n x) k t)
written_more {A} {B} P qs old mid n q0 t0 x in_qs in_mid in_old done left here k q t h = grind (arith, eqb_tells, get_or_default, get_or-set_at, get_or-set_other, eqb)
