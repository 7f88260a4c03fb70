-- Digits of a fixed width, and the number that they spell.
use Rattle.std.proofs.Common.{◌≡◌, ℕ, zero, suc, ◌+◌, ◌-◌, ◌*◌, ◌/◌, ◌%◌, ◌^◌, ◌<◌, List, [], ◌∷◌, ◌++◌, length, refl}
use Rattle.std.proofs.Common.{◌∙◌, ap, arith, length-append}
use Rattle.std.proofs.Math.Nat.{pow-succ'}
use Rattle.journal.specs.Groups.{digits, number_from}

pub number_step : (n d : ℕ) (ds : List ℕ) → number_from n (d ∷ ds) ≡ number_from (10 * n + (d - 48)) ds
unfolding number_from
number_step n d ds = refl

pub number_end : (n : ℕ) → number_from n [] ≡ n
unfolding number_from
number_end n = refl

number_push : (n d : ℕ) (ds : List ℕ) → number_from n (ds ++ d ∷ []) ≡ 10 * number_from n ds + (d - 48)
unfolding number_from
number_push n d [] = refl
number_push n d (x ∷ ds) = number_push (10 * n + (x - 48)) d ds

pub digits_none : (n : ℕ) → digits 0 n ≡ []
unfolding digits
digits_none n = refl

digits_more : (k n : ℕ) → digits (suc k) n ≡ digits k (n / 10) ++ (48 + n % 10) ∷ []
unfolding digits
digits_more k n = refl

pub digits_at : (k n : ℕ) → 0 < k → digits k n ≡ digits (k - 1) (n / 10) ++ (48 + n % 10) ∷ []
digits_at zero n some = absurd (omega arith)
digits_at (suc k) n some =
    let same : k ≡ suc k - 1 = omega arith in digits_more k n ∙ ap (λ j. digits j (n / 10) ++ (48 + n % 10) ∷ []) same

pub length-digits : (k n : ℕ) → length (digits k n) ≡ k
length-digits zero n = ap length (digits_none n)
length-digits (suc k) n = omega (arith, ap length (digits_more k n), length-append (digits k (n / 10)) ((48 + n % 10) ∷ []), length-digits k (n / 10))

-- they spell the number, if it fits
pub number-digits : (k n : ℕ) → n < 10 ^ k → number_from 0 (digits k n) ≡ n
number-digits zero n small =
    let none : 0 ≡ n = omega arith in ap (number_from 0) (digits_none n) ∙ number_end 0 ∙ none
number-digits (suc k) n small =
    let smaller : n / 10 < 10 ^ k = omega (arith, pow-succ' 10 k) in
    let front = number-digits k (n / 10) smaller in
    let whole : 10 * number_from 0 (digits k (n / 10)) + (48 + n % 10 - 48) ≡ n = omega arith in
    ap (number_from 0) (digits_more k n) ∙ number_push 0 (48 + n % 10) (digits k (n / 10)) ∙ whole
