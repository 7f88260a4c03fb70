use Rattle.std.proofs.Common.{◌≡◌, length}
use Rattle.confirmed_commits.specs.Receipts.{AllHave}
use Rattle.confirmed_commits.proofs.seconds.Seconds.await_each.Given as goal

-- those that were waited for have told of so many commits
abbrev pub invariant-loop-second : goal.invariant-loop-second
invariant-loop-second g l = (length l.told.items ≡ l.second-index) × AllHave l.told.items l.commits
