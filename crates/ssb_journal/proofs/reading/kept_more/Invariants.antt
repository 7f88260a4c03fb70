use Rattle.std.proofs.Common.{◌≡◌, ◌++◌, take}
use Rattle.ssb_journal.proofs.reading.kept_more.Given as goal

abbrev pub invariant-loop-commit : goal.invariant-loop-commit
invariant-loop-commit l = l.all.items ≡ l.fn.kept.commits.items ++ take l.commit-index l.commits
