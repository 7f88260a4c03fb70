-- The three texts of a line.
use Rattle.std.specs.Prelude.{ℕ, List}

-- the texts of a line, as bytes
pub record Texts : Type 0 where
  pub order_priority : List ℕ
  pub ship_priority : List ℕ
  pub ship_mode : List ℕ

abbrev pub texts_of : List ℕ → List ℕ → List ℕ → Texts
texts_of order_priority ship_priority ship_mode =
    record { order_priority = order_priority; ship_priority = ship_priority; ship_mode = ship_mode }
