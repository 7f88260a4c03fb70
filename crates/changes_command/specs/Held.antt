-- Which lines an order has, of which some actions of a refresh were made.
use Rattle.std.specs.Borrow.{Bor}
use Rattle.std.specs.Prelude.{◌≡◌, ℕ, List, Option, MatchOption}
use Rattle.row_store.specs.Lines.{lines_of}
use Rattle.ssb_schema.specs.declared.line.LineFields.{LineFields}

-- among these lines the order of a key has those that it had before, or its own ones
abbrev pub IsHeldFrom : ℕ → List LineFields → Option (Bor (List LineFields)) → List LineFields → Type 0
IsHeldFrom key before held lines =
    MatchOption held (lines_of key lines ≡ lines_of key before) (λ own. lines_of key lines ≡ own.now)
