use Rattle.std.proofs.Common.{◌≡◌, take}
use Rattle.export_command.proofs.copied_rows.copied_rows.Given as goal

abbrev pub invariant-loop-row : goal.invariant-loop-row
invariant-loop-row g l = l.copies.items ≡ take l.row-index l.rows
