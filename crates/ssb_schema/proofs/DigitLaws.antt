-- Laws of the number that digits write.
use Rattle.std.proofs.Common.{◌≡◌, ◌<◌, ◌≤◌, ◌+◌, ◌-◌, ◌*◌, ◌^◌, ℕ, Bool, true, false, ◌&&◌, nat_lt, nat_le, List, []}
use Rattle.std.proofs.Common.{◌∷◌, ◌++◌, Some, None, length, take, drop, append-nil, append_assoc, get_or}
use Rattle.std.proofs.Common.{length-append, pow-suc, add-one, lit≤, refl, ap, ◌∙◌, arith}
use Rattle.std.specs.List.{list_all}
use Rattle.std.specs.Char.{is_ascii_digit}
use Rattle.std.proofs.lemmas.Bool.{le-ltb, lt-ltb, le-leb}
use Rattle.std.proofs.lemmas.List.{take_more, take-append-drop}
use Rattle.std.proofs.Math.Nat.{pow-le-pow_right}
use Rattle.std.proofs.lemmas.Bool.Decides.{nat_tests}
use Rattle.ssb_schema.specs.Numerals.{decimal_value, number_of}

pub power : (n : ℕ) → 10 ^ (n + 1) ≡ 10 ^ n * 10
power n = rw (add-one, pow-suc) refl

-- 19 digits write numbers of 64 bits
pub few_digits : (n : ℕ) → n ≤ 19 → 10 ^ n < 2 ^ 64
few_digits n few = grind (arith, pow-le-pow_right, lit≤)

pub digit_most : (c : ℕ) → is_ascii_digit c ≡ true → c ≤ 57
digit_most c digit = grind (arith, nat_tests)

-- one digit more
pub decimal_value-push : (cs : List ℕ) (c : ℕ) → decimal_value (cs ++ c ∷ []) ≡ decimal_value cs * 10 + (c - 48)
decimal_value-push [] c = omega arith
decimal_value-push (d ∷ cs) c = rw (length-append cs (c ∷ []), decimal_value-push cs c, power (length cs)) (omega arith)

-- the first digits write no more than all of them
pub decimal_value-push-le : (cs : List ℕ) (c : ℕ) → decimal_value cs ≤ decimal_value (cs ++ c ∷ [])
decimal_value-push-le cs c = omega (arith, decimal_value-push cs c)

decimal_value-append-le : (cs ds : List ℕ) → decimal_value cs ≤ decimal_value (cs ++ ds)
decimal_value-append-le cs [] = grind (arith, append-nil)
decimal_value-append-le cs (d ∷ ds) = grind (arith, append_assoc, decimal_value-push-le, decimal_value-append-le (cs ++ d ∷ []) ds)

decimal_value-take-le : (bytes : List ℕ) (i : ℕ) → decimal_value (take i bytes) ≤ decimal_value bytes
decimal_value-take-le bytes i = omega (
  arith,
  decimal_value-append-le (take i bytes) (drop i bytes),
  ap decimal_value (take-append-drop i bytes),
)

-- the digits up to a place, and one more
pub decimal_value-take : (bytes : List ℕ) (i : ℕ) → i < length bytes
    → decimal_value (take (i + 1) bytes) ≡ decimal_value (take i bytes) * 10 + (get_or bytes i 0 - 48)
decimal_value-take bytes i lt = ap decimal_value (take_more bytes i 0 lt)
    ∙ decimal_value-push (take i bytes) (get_or bytes i 0)

and_false : (b : Bool) → (b && false) ≡ false
and_false true = refl
and_false false = refl

-- bytes whose first digits write too large a number spell none
pub number_of-too_large : (bytes : List ℕ) (i : ℕ) → 2 ^ 64 ≤ decimal_value (take i bytes) → number_of bytes ≡ None
number_of-too_large bytes i large = grind (arith, nat_lt, le-ltb, decimal_value-take-le, and_false)

pub number_of-digits : (bytes : List ℕ) → 0 < length bytes → length bytes ≤ 20 → list_all is_ascii_digit bytes ≡ true
    → decimal_value bytes < 2 ^ 64 → number_of bytes ≡ Some (decimal_value bytes)
number_of-digits bytes some few digits fits = grind (arith, nat_lt, lt-ltb, nat_le, le-leb)
