use Rattle.std.proofs.Common.{◌≡◌, ◌++◌}
use Rattle.ssb_journal.proofs.commits.push_all.Given as goal

abbrev pub invariant-loop-commit : goal.invariant-loop-commit
invariant-loop-commit l = l.commits.items ≡ l.initial.commits.items ++ l.yielded
