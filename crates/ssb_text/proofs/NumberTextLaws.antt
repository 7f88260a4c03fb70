-- The text of a number is read back as the number.
use Rattle.std.proofs.Common.{◌≡◌, ℕ, ◌^◌, ◌<◌, ◌≤◌, true, false, List, [], ◌∷◌, length, Some, sym, ap, ◌∙◌}
use Rattle.std.proofs.Common.{subst, arith, rules}
use Rattle.std.specs.Prelude.{◌==◌, decimal}
use Rattle.std.specs.Char.{is_ascii_digit}
use Rattle.std.specs.List.{list_all}
use Rattle.std.proofs.lemmas.Bool.Decides.{nat_tests}
use Rattle.std.proofs.lemmas.Fmt.{decimal_nonempty, digits_decimal, digits_value-decimal, length-decimal-le}
use Rattle.std.proofs.lemmas.Str.Parse.{IsNumeralModel, numerals_by_weight}
use Rattle.ssb_schema.proofs.DigitLaws.{number_of-digits}
use Rattle.ssb_schema.specs.Columns.{is_plain_byte}
use Rattle.ssb_schema.specs.Numerals.{decimal_value, number_of}
use Rattle.ssb_text.specs.Spelling.{without_spaces}
use Rattle.ssb_text.proofs.FieldTextLaws.{IsKept}
use Rattle.ssb_text.proofs.RecordTextLaws.{and-left, and-right}

-- digits, and the number that they write, in the reader's words
digits-read : IsNumeralModel (λ ds. list_all is_ascii_digit ds ≡ true) decimal_value
digits-read = numerals_by_weight _ (search rules) decimal_value (search rules)

pub all_digits : (n : ℕ) → n < 2 ^ 64 → list_all is_ascii_digit (decimal n) ≡ true
all_digits n small = digits_decimal digits-read n small

pub number_read : (n : ℕ) → n < 2 ^ 64 → number_of (decimal n) ≡ Some n
number_read n small =
    let value : decimal_value (decimal n) ≡ n = digits_value-decimal digits-read n small in
    let few : length (decimal n) ≤ 20 = length-decimal-le 20 n (omega arith) (omega arith) small in
    number_of-digits (decimal n) (decimal_nonempty n small) few (all_digits n small)
    (subst (λ m. m < 2 ^ 64) (sym value) small) ∙ ap Some value

-- a digit is plain, and no space and no minus
digit-plain : (c : ℕ) → is_ascii_digit c ≡ true → is_plain_byte c ≡ true
digit-plain c digit = grind (arith, nat_tests)

pub digit_not : (c other : ℕ) → is_ascii_digit c ≡ true → other < 48 → (c == other) ≡ false
digit_not c other digit low = grind (arith, nat_tests)

pub digits_plain : (ds : List ℕ) → list_all is_ascii_digit ds ≡ true → list_all is_plain_byte ds ≡ true
digits_plain [] all = grind arith
digits_plain (c ∷ ds) all = grind (arith, digit-plain, and-left, and-right, digits_plain ds (and-right (is_ascii_digit c) (list_all is_ascii_digit ds) all))

pub digits_kept : (ds : List ℕ) → list_all is_ascii_digit ds ≡ true → without_spaces ds ≡ ds
unfolding without_spaces
digits_kept [] all = grind arith
digits_kept (c ∷ ds) all = grind (arith, and-left, and-right, digit_not, digits_kept ds (and-right (is_ascii_digit c) (list_all is_ascii_digit ds) all))

pub number_kept : (n : ℕ) → n < 2 ^ 64 → IsKept (decimal n)
number_kept n small = grind (arith, digits_plain, all_digits, digits_kept)
