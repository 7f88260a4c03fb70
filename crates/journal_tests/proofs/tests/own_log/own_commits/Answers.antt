use Rattle.std.proofs.Common.{take}
use Rattle.journal_tests.proofs.OwnLaws.{own_clients_of}
use Rattle.journal_tests.proofs.tests.own_log.own_commits.Goals as goal

pub returns-clause-clients : goal.returns-clause-clients
returns-clause-clients c =
    own_clients_of (take c.loop-refresh.refresh-index c.args.refreshes.now) (λ refresh. refresh.value)
    c.loop-refresh.commits.items c.loop-refresh.invariant.commits
