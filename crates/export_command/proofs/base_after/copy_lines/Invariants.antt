use Rattle.std.proofs.Common.{◌≡◌, ◌++◌, take}
use Rattle.export_command.proofs.base_after.copy_lines.Given as goal

abbrev pub invariant-loop-line : goal.invariant-loop-line
invariant-loop-line l = l.lines.items ≡ l.initial.lines.items ++ take l.line-index l.more
