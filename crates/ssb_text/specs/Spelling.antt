-- What the bytes of one field spell.
use Rattle.std.specs.Prelude.{ℕ, Bool, List, [], ◌∷◌, length, get_or, Option, Some, None, ◌==◌, if◌then◌else◌}
use Rattle.std.specs.List.{list_all}
use Rattle.std.specs.Str.Lossy.{utf8_valid_len}

-- a field without the spaces at its end
unfoldable pub without_spaces : List ℕ → List ℕ
without_spaces [] = []
without_spaces (b ∷ rest) = if list_all (λ c. c == 32) (b ∷ rest) then [] else b ∷ without_spaces rest

-- a record's field at a place, counted from 0, without the spaces at its end
abbrev pub field : List (List ℕ) → ℕ → List ℕ
field fields place = without_spaces (get_or fields place [])

-- whether bytes are UTF-8
abbrev pub is_utf8 : List ℕ → Bool
is_utf8 bytes = utf8_valid_len bytes == length bytes

-- the text that bytes spell
abbrev pub text_of : List ℕ → Option (List ℕ)
text_of bytes = if is_utf8 bytes then Some bytes else None
