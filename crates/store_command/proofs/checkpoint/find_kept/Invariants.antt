use Rattle.std.proofs.Common.{◌≡◌}
use Rattle.store_core.specs.Calls.{Named, tables_known}
use Rattle.store_command.proofs.checkpoint.find_kept.Given as goal

abbrev pub invariant-loop-after : goal.invariant-loop-after
invariant-loop-after g l = tables_known l.steps ≡ Named l.kept
