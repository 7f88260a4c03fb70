-- Fields that are kept as they are: their bytes are plain, and no space at the end is taken away.
use Rattle.std.proofs.Common.{◌≡◌, ℕ, ◌-◌, Bool, true, false, ◌&&◌, nat_eq, List, [], ◌∷◌, ◌++◌, length, Some}
use Rattle.std.proofs.Common.{refl, sym, ap, ◌∙◌, arith}
use Rattle.std.specs.Prelude.{◌==◌, not}
use Rattle.std.specs.List.{list_all}
use Rattle.std.specs.Str.{IsUtf8}
use Rattle.std.proofs.Math.Seq.{get_or-append_seam}
use Rattle.std.proofs.lemmas.Bool.{cases_Bool, eqb-true}
use Rattle.ssb_text.specs.Spelling.{field, text_of, without_spaces}
use Rattle.ssb_text.proofs.Utf8Laws.{text_is_utf8}
use Rattle.ssb_schema.specs.Columns.{ends_in_space, is_plain}
use Rattle.ssb_text.proofs.RecordTextLaws.{IsPlainField, and-left, and-right, not-false}

-- a field that is read as it was written
pub record IsKept (bytes : List ℕ) : Type 0 where
  pub plain : IsPlainField bytes
  pub kept : without_spaces bytes ≡ bytes

and-false : (b : Bool) → (b && false) ≡ false
and-false true = refl
and-false false = refl

abbrev is_space : ℕ → Bool
is_space c = c == 32

-- a byte that is no space keeps those before it
not-all-spaces : (b : ℕ) (rest : List ℕ) → list_all is_space (b ∷ rest) ≡ false → without_spaces rest ≡ rest
    → without_spaces (b ∷ rest) ≡ b ∷ rest
unfolding without_spaces
not-all-spaces b rest some kept = rw (some, kept) refl

-- the end of a longer text is that of the shorter one
ends-later : (b c : ℕ) (rest : List ℕ) → ends_in_space (b ∷ c ∷ rest) ≡ ends_in_space (c ∷ rest)
ends-later b c rest = grind (arith, nat_eq)

some-other : (b : ℕ) (rest : List ℕ) → ends_in_space (b ∷ rest) ≡ false → list_all is_space (b ∷ rest) ≡ false
some-other b [] end = grind (arith, cases_Bool, eqb-true)
some-other b (c ∷ rest) end = grind (arith, ends-later, and-false, some-other c rest (sym (ends-later b c rest) ∙ end))

kept-text : (bytes : List ℕ) → ends_in_space bytes ≡ false → without_spaces bytes ≡ bytes
unfolding without_spaces
kept-text [] end = grind arith
kept-text (b ∷ []) end = grind (arith, not-all-spaces, some-other)
kept-text (b ∷ c ∷ rest) end = grind (arith, not-all-spaces, some-other, ends-later, kept-text (c ∷ rest) (sym (ends-later b c rest) ∙ end))

-- a text that a table file can hold is kept
pub text_kept : (bytes : List ℕ) → is_plain bytes ≡ true → IsKept bytes
text_kept bytes plain = grind (arith, and-left, kept-text, not-false, and-right)

-- and is text where it is UTF-8
pub text_read : (bytes : List ℕ) → IsUtf8 bytes → text_of bytes ≡ Some bytes
text_read bytes text = rw (text_is_utf8 bytes text) refl

-- the field at a place
pub field_there : (front : List (List ℕ)) (bytes : List ℕ) (back : List (List ℕ)) → IsKept bytes
    → field (front ++ bytes ∷ back) (length front) ≡ bytes
field_there front bytes back kept = ap without_spaces (get_or-append_seam front bytes back []) ∙ kept.kept
