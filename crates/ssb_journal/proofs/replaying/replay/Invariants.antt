use Rattle.std.proofs.Common.{◌≡◌, ◌++◌, take}
use Rattle.ssb_journal.proofs.replaying.replay.Given as goal

abbrev pub invariant-loop-commit : goal.invariant-loop-commit
invariant-loop-commit l = l.store ≡ record { base = l.fn.store.base; log = l.fn.store.log ++ take l.commit-index l.commits }
