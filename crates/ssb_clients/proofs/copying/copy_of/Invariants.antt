use Rattle.std.proofs.Common.{◌≡◌, take}
use Rattle.ssb_clients.proofs.copying.copy_of.Given as goal

abbrev pub invariant-loop-commit : goal.invariant-loop-commit
invariant-loop-commit l = l.copies.items ≡ take l.commit-index l.commits
