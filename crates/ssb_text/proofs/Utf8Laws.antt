-- Whether bytes are UTF-8.
use Rattle.std.proofs.Common.{◌≡◌, ℕ, List, true, false, arith, eq-eqb}
use Rattle.std.specs.Str.{IsUtf8, IsValidUpTo}
use Rattle.std.proofs.lemmas.Str.{utf8_valid_len-IsUtf8, utf8_valid_len-IsValidUpTo}
use Rattle.std.proofs.lemmas.Bool.{ne_eqb}
use Rattle.ssb_text.specs.Spelling.{is_utf8}

-- text is UTF-8, and bytes that are no text are not
pub text_is_utf8 : (bytes : List ℕ) → IsUtf8 bytes → is_utf8 bytes ≡ true
text_is_utf8 bytes text = eq-eqb _ _ (utf8_valid_len-IsUtf8 bytes text)

pub no_text_is_not : (bytes : List ℕ) (n : ℕ) → IsValidUpTo bytes n → is_utf8 bytes ≡ false
no_text_is_not bytes n valid = ne_eqb _ _ (λ same. absurd
    (omega (arith, same, valid.short, utf8_valid_len-IsValidUpTo bytes n valid)))
