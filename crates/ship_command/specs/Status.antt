-- The exit status where a journal is not shipped.
use Rattle.std.specs.Prelude.{ℕ}
use Rattle.journal_opening.specs.Status.{opening_status}
use Rattle.ship_command.specs.declared.fault.ShipRefusal.{ShipRefusal}
use Rattle.ship_command.specs.declared.fault.ShipRefusal.TheVariants as refusal

-- 1: the journal is refused, or has no such commit; 4: a call of the system failed, or memory ran out
abbrev pub refusal_status : ShipRefusal → ℕ
refusal_status (refusal.Journal why) = opening_status why
refusal_status (refusal.Commit why) = 1
