use Rattle.std.proofs.Common.{◌≡◌, take}
use Rattle.ssb_clients.proofs.order.copy_lines.Given as goal

abbrev pub invariant-loop-place : goal.invariant-loop-place
invariant-loop-place l = l.lines.items ≡ take l.place l.order
