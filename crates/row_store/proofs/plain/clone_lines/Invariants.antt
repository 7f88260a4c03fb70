use Rattle.std.proofs.Common.{◌≡◌, ◌++◌, take}
use Rattle.row_store.proofs.plain.clone_lines.Given as goal

abbrev pub invariant-loop-line : goal.invariant-loop-line
invariant-loop-line l = l.fresh.items ≡ l.initial.fresh.items ++ take l.line-index l.lines
