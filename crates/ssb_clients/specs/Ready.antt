-- Who reads the log between two calls.
use Rattle.std.specs.Prelude.{◌≡◌, ℕ}
use Rattle.history_core.specs.declared.event.Who.TheVariants.{Dispatcher}
use Rattle.history.specs.Tokens.{TokenRecord, IsFree}

-- at the table who reads the log is the dispatcher of this number, and it holds nothing
pub record IsIdle (number : ℕ) (t : TokenRecord) : Type 0 where
  pub who_is : t.who ≡ Dispatcher number
  pub free : IsFree t
