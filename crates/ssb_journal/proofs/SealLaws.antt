-- What the line of a checksum is, and what a sealed text tells.
use Rattle.std.proofs.Common.{◌≡◌, ℕ, ◌/◌, ◌<◌, true, false, nat_eq, List, [], ◌∷◌, ◌++◌, length, drop, refl, sym, ◌∙◌}
use Rattle.std.proofs.Common.{ap, arith, length-append}
use Rattle.std.proofs.lemmas.List.{drop_at}
use Rattle.std.proofs.lemmas.Bool.{both_ways}
use Rattle.std.proofs.lemmas.Bool.Decides.{Decides-eqb}
use Rattle.std.proofs.lemmas.Slice.Eq.{starts_is}
use Rattle.std.specs.List.{starts_with}
use Rattle.hex.specs.Hex.{encode_lower, lower_digits}
use Rattle.hex.proofs.HexLemmas.{length-encode_with}
use Rattle.md5.specs.Md5.{md5, digest_bytes, hash_after, padded_message}
use Rattle.ssb_journal.specs.Seals.{checksum_line, sealed, IsNotSealed}

length-digest : (h : List ℕ) → length (digest_bytes h 4) ≡ 16
unfolding digest_bytes
length-digest h = refl

length-md5 : (m : List ℕ) → length (md5 m) ≡ 16
unfolding md5
length-md5 m = length-digest (hash_after (padded_message m) (length (padded_message m) / 64))

pub length-line : (text : List ℕ) → length (checksum_line text) ≡ 33
unfolding checksum_line
length-line text = omega (arith, length-append (encode_lower (md5 text)) (10 ∷ []), length-encode_with lower_digits (md5 text), length-md5 text)

-- the text of a sealed one
pub drop-sealed : (text : List ℕ) → drop 33 (sealed text) ≡ text
drop-sealed text = drop_at (checksum_line text) text 33 (length-line text)

-- two texts that are sealed alike are one
pub sealed-injective : (text other : List ℕ) → sealed text ≡ sealed other → text ≡ other
sealed-injective text other same = sym (drop-sealed text) ∙ ap (drop 33) same ∙ drop-sealed other

module _ (group rest line : List ℕ) (rest_is : rest ≡ drop 33 group) (line_is : line ≡ checksum_line rest) where
  pub sealed_here : starts_with nat_eq group line ≡ true → group ≡ sealed rest
  sealed_here starts =
      let begins : group ≡ line ++ drop (length line) group = (starts_is Decides-eqb group line _ refl).0 starts in
      let long : length line ≡ 33 = ap length line_is ∙ length-line rest in
      begins ∙ ap (λ (n : ℕ). line ++ drop n group) long ∙ ap (λ (l : List ℕ). line ++ l) (sym rest_is) ∙ ap (λ (l : List ℕ). l ++ rest) line_is

  pub not_sealed_here : starts_with nat_eq group line ≡ false → IsNotSealed group
  not_sealed_here starts text is =
      let same : rest ≡ text = rest_is ∙ ap (drop 33) is ∙ drop-sealed text in
      let begins : group ≡ line ++ text = is ∙ ap (λ (l : List ℕ). l ++ text) (ap checksum_line (sym same) ∙ sym line_is) in
      absurd (both_ways _ starts ((starts_is Decides-eqb group line _ refl).1 text begins))

pub short_not_sealed : (group : List ℕ) → length group < 33 → IsNotSealed group
short_not_sealed group short text is = absurd (omega (arith, ap length is, length-append (checksum_line text) text, length-line text))
