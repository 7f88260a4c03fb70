-- Texts behind the lines of their checksums.
use Rattle.std.specs.Prelude.{◌≡◌, List, ℕ, ◌∷◌, [], ◌++◌}
use Rattle.hex.specs.Hex.{encode_lower}
use Rattle.md5.specs.Md5.{md5}

-- the line of a text's checksum: 32 hexadecimal digits
unfoldable pub checksum_line : List ℕ → List ℕ
checksum_line text = encode_lower (md5 text) ++ 10 ∷ []

-- a text behind that line
abbrev pub sealed : List ℕ → List ℕ
sealed text = checksum_line text ++ text

-- bytes that are no text behind the line of its checksum
abbrev pub IsNotSealed : List ℕ → Type 0
IsNotSealed group = (text : List ℕ) → group ≡ sealed text → ⊥
