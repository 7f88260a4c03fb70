-- A line is read back as what it was made of, and a number in it.
use Rattle.std.proofs.Common.{◌≡◌, ◌⊎◌, ℕ, zero, suc, ◌+◌, ◌<◌, ◌^◌, true, List, [], ◌∷◌, ◌++◌, length, get_or, take}
use Rattle.std.proofs.Common.{drop, Option, None, Some, inl, inr, sym, ◌∙◌, ap, arith, append_assoc}
use Rattle.std.specs.Prelude.{decimal}
use Rattle.std.specs.Char.{is_ascii_digit}
use Rattle.std.specs.List.{list_all}
use Rattle.std.proofs.lemmas.Bool.{both_ways, cases_order}
use Rattle.std.proofs.lemmas.Bool.Decides.{Decides-eqb}
use Rattle.std.proofs.lemmas.List.{append_cancel_left, length-append}
use Rattle.std.proofs.Math.ListN.{get_or-append}
use Rattle.std.proofs.Math.Seq.{drop-append-add, get_or-append_seam, take-append_seam}
use Rattle.memchr.specs.Find.{IsFirstByte, is_byte}
use Rattle.ssb_schema.specs.Numerals.{number_of}
use Rattle.ssb_text.proofs.NumberTextLaws.{all_digits, digit_not, number_read}
use Rattle.ssb_text.proofs.RecordTextLaws.{and-left, and-right}
use Rattle.ssb_text.specs.TextLines.{HasNoLineEnd}
use Rattle.store_folder.specs.Texts.{line}

abbrev value : Option ℕ → ℕ
value (Some n) = n
value None = 0

pub some_is : (a b : ℕ) → Some a ≡ Some b → a ≡ b
some_is a b same = ap value same

pub none_is : (number : ℕ) → None ≡ Some number → ⊥
none_is number clash = cc

-- the digits behind the beginning of a name are those of its number
pub digits_are : (name begin digits : List ℕ) (n : ℕ) → name ≡ begin ++ digits → name ≡ begin ++ decimal n → digits ≡ decimal n
digits_are name begin digits n is same = append_cancel_left begin digits (decimal n) (sym is ∙ same)

pub number_is : (digits : List ℕ) (n : ℕ) → n < 2 ^ 64 → digits ≡ decimal n → number_of digits ≡ Some n
number_is digits n small same = ap number_of same ∙ number_read n small

-- the digits of a number end no line
digits_end_none : (ds : List ℕ) → list_all is_ascii_digit ds ≡ true → HasNoLineEnd ds
digits_end_none [] all = tt
digits_end_none (d ∷ ds) all = (
  (λ same. both_ways _ (digit_not d 10 (and-left (is_ascii_digit d) (list_all is_ascii_digit ds) all) (omega arith)) ((Decides-eqb d 10).1 same)),
  digits_end_none ds (and-right (is_ascii_digit d) (list_all is_ascii_digit ds) all),
)

pub number_is_one_line : (n : ℕ) → n < 2 ^ 64 → HasNoLineEnd (decimal n)
number_is_one_line n small = digits_end_none (decimal n) (all_digits n small)

-- a line, part by part
pub line_then : (word value rest : List ℕ) → line word value ++ rest ≡ word ++ 124 ∷ (value ++ 10 ∷ rest)
line_then word value rest =
    append_assoc word (124 ∷ (value ++ 10 ∷ [])) rest ∙ ap (λ (l : List ℕ). word ++ 124 ∷ l) (append_assoc value (10 ∷ []) rest)

-- what stands behind its word and its bar
pub told_is : (text word value rest behind told : List ℕ) → text ≡ line word value ++ rest → text ≡ word ++ behind
    → behind ≡ 124 ∷ told → told ≡ value ++ 10 ∷ rest
told_is text word value rest behind told is parted barred =
    append_cancel_left (124 ∷ []) told (value ++ 10 ∷ rest)
    (sym barred ∙ append_cancel_left word behind (124 ∷ (value ++ 10 ∷ rest)) (sym parted ∙ is ∙ line_then word value rest))

no_end : (value : List ℕ) (k : ℕ) → HasNoLineEnd value → k < length value → is_byte 10 (get_or value k 0) ≡ true → ⊥
no_end [] k none inside ends = absurd (omega (arith, inside))
no_end (b ∷ bytes) zero none inside ends = none.0 ((Decides-eqb b 10).0 ends)
no_end (b ∷ bytes) (suc k) none inside ends = no_end bytes k none.1 (omega (arith, inside)) ends

-- the first end of a line stands behind the value
module _ (value rest told : List ℕ) (none : HasNoLineEnd value) (is : told ≡ value ++ 10 ∷ rest) where
  end_inside : length value < length told
  end_inside = omega (arith, ap length is, length-append value (10 ∷ rest))

  end_here : is_byte 10 (get_or told (length value) 0) ≡ true
  end_here =
      ap (λ (l : List ℕ). is_byte 10 (get_or l (length value) 0)) is ∙ ap (is_byte 10) (get_or-append_seam value 10 rest 0)

  not_before : (k : ℕ) → k < length value → is_byte 10 (get_or told k 0) ≡ true → ⊥
  not_before k before ends =
      no_end value k none before
      (sym (ap (is_byte 10) (ap (λ (l : List ℕ). get_or l k 0) is ∙ get_or-append value (10 ∷ rest) 0 k before)) ∙ ends)

  end_at : (k : ℕ) → IsFirstByte (is_byte 10) told (Some k)
      → (k ≡ length value) ⊎ ((k < length value) ⊎ (length value < k)) → Some k ≡ Some (length value)
  end_at k first (inl same) = ap Some same
  end_at k first (inr (inl before)) = absurd (not_before k before first.1)
  end_at k first (inr (inr behind)) = absurd (first.0.before (length value) (omega arith) behind end_here)

  pub end_place : (place : Option ℕ) → IsFirstByte (is_byte 10) told place → place ≡ Some (length value)
  end_place None first = absurd (first (length value) (omega arith) end_inside end_here)
  end_place (Some k) first = end_at k first (cases_order k (length value))

  pub value_is : take (length value) told ≡ value
  value_is = ap (take (length value)) is ∙ take-append_seam value (10 ∷ rest)

  pub rest_is : drop (length value + 1) told ≡ rest
  rest_is = ap (drop (length value + 1)) is ∙ drop-append-add value (10 ∷ rest) 1
