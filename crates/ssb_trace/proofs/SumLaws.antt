-- The text of a sum is read back as the sum.
use Rattle.std.proofs.Common.{le-leb, lt-ltb, ◌≡◌, ℕ, suc, ◌^◌, ◌<◌, ◌≤◌, true, false, nat_eq, List, [], ◌∷◌, length}
use Rattle.std.proofs.Common.{Some, refl, ◌∙◌, arith}
use Rattle.std.specs.Prelude.{◌==◌, codes, decimal, ℤ, pos, negsuc}
use Rattle.std.specs.Char.{is_ascii_digit}
use Rattle.std.specs.Cmp.Lexicographic.{pointwise}
use Rattle.std.specs.Fmt.{signed_decimal}
use Rattle.std.specs.Int.Signed.{mag}
use Rattle.std.specs.List.{list_all}
use Rattle.std.specs.Option.{option_and_then}
use Rattle.std.proofs.Math.IntN.{+ℤ_idl}
use Rattle.std.proofs.lemmas.Bool.Decides.{nat_tests}
use Rattle.std.proofs.lemmas.Fmt.{decimal_nonempty, length-decimal-le}
use Rattle.ssb_text.specs.Spelling.{without_spaces}
use Rattle.ssb_text.proofs.FieldTextLaws.{IsKept}
use Rattle.ssb_text.proofs.NumberTextLaws.{all_digits, digit_not, digits_kept, digits_plain, number_kept, number_read}
use Rattle.ssb_text.proofs.RecordTextLaws.{and-left}
use Rattle.ssb_trace.specs.Rows.{amount_of, positive, signed_of}

-- a minus before digits
minus-kept : (ds : List ℕ) → list_all is_ascii_digit ds ≡ true → without_spaces (45 ∷ ds) ≡ 45 ∷ ds
unfolding without_spaces
minus-kept ds all = rw (digits_kept ds all) refl

pub sum_kept : (sum : ℤ) → mag sum < 2 ^ 63 → IsKept (signed_decimal sum)
sum_kept (pos n) small = number_kept n (omega (arith, small))
sum_kept (negsuc n) small =
    let all = all_digits (suc n) (omega (arith, small)) in
    record { plain = digits_plain (decimal (suc n)) all; kept = minus-kept (decimal (suc n)) all }

-- digits have no sign
no-sign : (ds : List ℕ) → 0 < length ds → list_all is_ascii_digit ds ≡ true
    → signed_of ds ≡ option_and_then positive (amount_of ds)
no-sign [] some all = absurd (omega (arith, some))
no-sign (c ∷ ds) some all = rw (digit_not c 45 (and-left (is_ascii_digit c) (list_all is_ascii_digit ds) all)
    (omega arith)) refl

amount-read : (n : ℕ) → n ≤ 2 ^ 63 → amount_of (decimal n) ≡ Some n
amount-read n small =
    let fits : n < 2 ^ 64 = omega (arith, small) in
    let few : length (decimal n) ≤ 19 = length-decimal-le 19 n (omega arith) (omega (arith, small)) fits in
    rw (le-leb (length (decimal n)) 19 few) (number_read n fits)

pub sum_read : (sum : ℤ) → mag sum < 2 ^ 63 → signed_of (signed_decimal sum) ≡ Some sum
sum_read (pos n) small = grind (arith, no-sign, decimal_nonempty, all_digits, amount-read, lt-ltb)
sum_read (negsuc n) small = grind (arith, amount-read, le-leb, +ℤ_idl)

-- and a number is not NULL
digit-no-letter : (c : ℕ) → is_ascii_digit c ≡ true → (c == 78) ≡ false
digit-no-letter c digit = grind (arith, nat_tests)

digits-no-null : (ds : List ℕ) → 0 < length ds → list_all is_ascii_digit ds ≡ true
    → pointwise nat_eq ds (codes "NULL") ≡ false
digits-no-null [] some all = absurd (omega (arith, some))
digits-no-null (c ∷ ds) some all = rw (digit-no-letter c (and-left (is_ascii_digit c) (list_all is_ascii_digit ds) all))
    refl

pub sum_no_null : (sum : ℤ) → mag sum < 2 ^ 63 → pointwise nat_eq (signed_decimal sum) (codes "NULL") ≡ false
sum_no_null (pos n) small = grind (arith, digits-no-null, decimal_nonempty, all_digits)
sum_no_null (negsuc n) small = grind arith
