-- What stays of who reads the log, while it looks.
use Rattle.std.specs.Prelude.{◌≡◌, length, take}
use Rattle.history.specs.Tokens.{TokenRecord}

-- it is the same member of the same table, and what it sees begins with what it had seen
pub record IsLater (first now : TokenRecord) : Type 0 where
  pub table : now.table ≡ first.table
  pub who : now.who ≡ first.who
  pub begins : take (length first.seen) now.seen ≡ first.seen
