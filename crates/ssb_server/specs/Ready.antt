-- A dispatcher between two turns.
use Rattle.std.specs.Prelude.{◌≡◌, ℕ, Option, Some}
use Rattle.history_core.specs.declared.event.Who.TheVariants.{Dispatcher}
use Rattle.history.specs.Tokens.{TokenRecord, IsFree}
use Rattle.twin_cell.specs.Twin.{Reading}
use Rattle.ssb_server.specs.Hand.{Hand, no_hand}
use Rattle.ssb_server.specs.Turns.{Knows}

-- it has its number and its reader, and holds nothing
pub record IsReady (number : ℕ) (t : TokenRecord) (reader : Option Reading) (hand : Hand) : Type 0 where
  pub who_is : t.who ≡ Dispatcher number
  pub free : IsFree t
  pub known : Reading
  pub reader_is : reader ≡ Some known
  pub knows : Knows t.table.base t.seen known
  pub hand_is : hand ≡ no_hand
