-- A set of numbers, a bit for each, as one is added.
use Rattle.std.proofs.Common.{ℕ, ◌≡◌, ◌*◌, ◌/◌, ◌%◌, ◌^◌, ◌<◌, true, false, cond, List, length, set, get_or, sym, refl}
use Rattle.std.proofs.Common.{ap, ◌∙◌, arith, bit_or}
use Rattle.std.specs.Prelude.{nat_eq}
use Rattle.std.specs.Cmp.{unsigned_Decides}
use Rattle.std.specs.Int.{bit_at, w64}
use Rattle.std.proofs.lemmas.Nat.Bits.{bit_at_set_same, bit_at_set_other}
use Rattle.std.proofs.lemmas.List.{get_or-set_same, get_or-set_other}

-- a number's bit
abbrev bit_in : List ℕ → ℕ → ℕ
bit_in words i = bit_at (get_or words (i / 64) 0) (i % 64)

module _ (words : List ℕ) (n : ℕ) (within : n / 64 < length words) (old : ℕ) (at : get_or words (n / 64) 0 ≡ old)
  where
    abbrev word : ℕ
    word = bit_or old (1 * 2 ^ (n % 64) % 2 ^ 64)

    abbrev new : List ℕ
    new = set words (n / 64) word

    here : get_or new (n / 64) 0 ≡ word
    here = get_or-set_same words (n / 64) word 0 within

    small : n % 64 < 64
    small = omega arith

    added : bit_in new n ≡ 1
    added = ap (λ (w : ℕ). bit_at w (n % 64)) here ∙ bit_at_set_same w64 old (n % 64) small

    others : (i : ℕ) → (n ≡ i → ⊥) → bit_in new i ≡ bit_in words i
    others i differs =
        elim (nat_eq (i / 64) (n / 64)) as (λ b. nat_eq (i / 64) (n / 64) ≡ b → bit_in new i ≡ bit_in words i) [
          | true ↦ λ t.
              let same : i / 64 ≡ n / 64 = (unsigned_Decides (i / 64) (n / 64)).0 t in
              ap (λ (w : ℕ). bit_at (get_or new w 0) (i % 64)) same ∙ ap (λ (w : ℕ). bit_at w (i % 64)) here
              ∙ bit_at_set_other w64 old (n % 64) small (i % 64) (λ bit. differs (omega (arith, same, bit)))
              ∙ ap (λ (w : ℕ). bit_at w (i % 64)) (sym at)
              ∙ ap (λ (w : ℕ). bit_at (get_or words w 0) (i % 64)) (sym same)
          | false ↦ λ f.
              ap (λ (w : ℕ). bit_at w (i % 64)) (get_or-set_other words (n / 64) (i / 64) word 0
              (λ e. let t : nat_eq (i / 64) (n / 64) ≡ true = (unsigned_Decides (i / 64) (n / 64)).1 e in cc))
        ] refl

    pub one_more : (i : ℕ) → nat_eq (bit_in new i) 1 ≡ cond (nat_eq n i) true (nat_eq (bit_in words i) 1)
    one_more i =
        elim (nat_eq n i) as (λ b. nat_eq n i ≡ b
        → nat_eq (bit_in new i) 1 ≡ cond b true (nat_eq (bit_in words i) 1)) [
          | true ↦ λ t. ap (λ (j : ℕ). nat_eq (bit_in new j) 1) (sym ((unsigned_Decides n i).0 t))
              ∙ ap (λ (b : ℕ). nat_eq b 1) added
          | false ↦ λ f. ap (λ (b : ℕ). nat_eq b 1)
              (others i (λ e. let t : nat_eq n i ≡ true = (unsigned_Decides n i).1 e in cc))
        ] refl
