-- How many clients a table has.
use Rattle.std.specs.Prelude.{ℕ}

-- the most clients
abbrev pub most_clients : ℕ
most_clients = 16
