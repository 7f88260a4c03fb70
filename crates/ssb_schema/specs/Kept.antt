-- How the three texts of a line are kept.
use Rattle.std.specs.Prelude.{ℕ, ◌≤◌, ◌-◌, List, take, drop, IsUtf8}
use Rattle.std.specs.String.{string_bytes}
use Rattle.ssb_schema.specs.Texts.{Texts, texts_of}
use Rattle.ssb_schema.specs.declared.texts.Kept.{Kept}
use Rattle.ssb_schema.specs.declared.texts.Kept.TheVariants.{Short, Long}

-- the bytes between two places
abbrev pub part : List ℕ → ℕ → ℕ → List ℕ
part bytes from to = take (to - from) (drop from bytes)

abbrev pub kept_texts : Kept → Texts
kept_texts (Short first second len bytes) = texts_of (part bytes 0 first) (part bytes first second) (part bytes second len)
kept_texts (Long apart) = texts_of (string_bytes apart.value.order_priority) (string_bytes apart.value.ship_priority)
    (string_bytes apart.value.ship_mode)

-- texts that lie one behind the other are in their cells, and are UTF-8
pub record IsShort (first second len : ℕ) (bytes : List ℕ) : Type 0 where
  pub rising : first ≤ second
  pub ordered : second ≤ len
  pub within : len ≤ 28
  pub order_priority : IsUtf8 (part bytes 0 first)
  pub ship_priority : IsUtf8 (part bytes first second)
  pub ship_mode : IsUtf8 (part bytes second len)

abbrev pub IsKept : Kept → Type 0
IsKept (Short first second len bytes) = IsShort first second len bytes
IsKept (Long apart) = Unit {0}
