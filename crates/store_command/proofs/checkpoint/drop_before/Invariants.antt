use Rattle.std.proofs.Common.{◌≡◌}
use Rattle.store_core.specs.Calls.{Sure, tables_known}
use Rattle.store_command.proofs.checkpoint.drop_before.Given as goal

abbrev pub invariant-loop-tables : goal.invariant-loop-tables
invariant-loop-tables g l = tables_known l.steps ≡ Sure l.kept

abbrev pub invariant-loop-segment : goal.invariant-loop-segment
invariant-loop-segment g l = tables_known l.steps ≡ Sure l.kept
