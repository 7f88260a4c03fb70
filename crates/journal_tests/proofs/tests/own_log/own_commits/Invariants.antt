use Rattle.std.proofs.Common.{◌≡◌, take, map}
use Rattle.journal_tests.specs.OwnCommits.{own}
use Rattle.journal_tests.proofs.tests.own_log.own_commits.Given as goal

abbrev pub invariant-loop-refresh : goal.invariant-loop-refresh
invariant-loop-refresh l = record {
  commits : l.commits.items ≡ map (λ refresh. own refresh.value) (take l.refresh-index l.refreshes);
}
