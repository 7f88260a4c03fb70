-- A quoted text, read byte by byte.
use Rattle.std.proofs.Common.{◌≡◌, ◌∙◌, ap, refl, sym, arith, ℕ, ◌+◌, ◌<◌, Bool, true, false, if◌then◌else◌}
use Rattle.std.proofs.Common.{List, length, drop, Option, None, Some, option_map}
use Rattle.std.proofs.Math.ListN.{get_or}
use Rattle.std.proofs.lemmas.List.{drop_more}
use Rattle.ssb_sql.specs.Lexemes.{has_ended, is_within_behind, quoted_len}

grown : (i : ℕ) (o : Option ℕ) → option_map (λ n. n + i) (option_map (λ n. n + 1) o) ≡ option_map (λ n. n + (i + 1)) o
grown i None = refl
grown i (Some n) = ap Some (omega arith)

at_byte : (bytes : List ℕ) (i d : ℕ) (within ended : Bool) → i < length bytes
    → has_ended within (get_or bytes i d) ≡ ended
    → quoted_len within (drop i bytes)
    ≡ (if ended then Some 0
    else option_map (λ n. n + 1) (quoted_len (is_within_behind within (get_or bytes i d)) (drop (i + 1) bytes)))
at_byte bytes i d within ended below is =
    let rest = quoted_len (is_within_behind within (get_or bytes i d)) (drop (i + 1) bytes) in
    ap (quoted_len within) (drop_more bytes i d below)
    ∙ ap (λ b. if b then Some 0 else option_map (λ n. n + 1) rest) is

pub quoted_goes : (bytes : List ℕ) (i d : ℕ) (within next : Bool) (whole : Option ℕ) → i < length bytes
    → has_ended within (get_or bytes i d) ≡ false → next ≡ is_within_behind within (get_or bytes i d)
    → option_map (λ n. n + i) (quoted_len within (drop i bytes)) ≡ whole
    → option_map (λ n. n + (i + 1)) (quoted_len next (drop (i + 1) bytes)) ≡ whole
quoted_goes bytes i d within next whole below is next_is told =
    ap (λ w. option_map (λ n. n + (i + 1)) (quoted_len w (drop (i + 1) bytes))) next_is
    ∙ (sym (grown i (quoted_len (is_within_behind within (get_or bytes i d)) (drop (i + 1) bytes)))
    ∙ (sym (ap (option_map (λ n. n + i)) (at_byte bytes i d within false below is)) ∙ told))
