-- How many dispatchers a server has.
use Rattle.std.specs.Prelude.{ℕ, ◌+◌, Bool, true, false}
use Rattle.ssb_clients.specs.declared.unneeded.Keeps.{Keeps}
use Rattle.ssb_clients.specs.declared.unneeded.Keeps.TheVariants.{All, Recent, Unread}

-- the most dispatchers
abbrev pub most_dispatchers : ℕ
most_dispatchers = 4

-- the most dispatchers at a table, where who reads the log is one of them
abbrev pub most_at_table : ℕ
most_at_table = most_dispatchers + 1

-- whether somebody reads the log
abbrev pub has_reader : Keeps → Bool
has_reader All = false
has_reader Recent = false
has_reader Unread = true

-- the dispatchers at the table: those that answer, and who reads the log
abbrev pub at_table : Keeps → ℕ → ℕ
at_table All dispatchers = dispatchers
at_table Recent dispatchers = dispatchers
at_table Unread dispatchers = dispatchers + 1
