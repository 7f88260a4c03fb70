use Rattle.std.proofs.Common.{take, All}
use Rattle.row_store.specs.History.{CommitRecord}
use Rattle.ssb_trace.specs.Allowed.{IsAllowedCommit, IsClient}
use Rattle.ssb_trace.proofs.committed.commits_are_allowed.Given as goal

abbrev pub invariant-loop-commit : goal.invariant-loop-commit
invariant-loop-commit l =
    All (λ (commit : CommitRecord). IsClient commit.client → IsAllowedCommit commit)
    (take l.commit-index l.commits)
