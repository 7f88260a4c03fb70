use Rattle.std.proofs.Common.{subst}
use Rattle.std.specs.List.{AllByRecursion}
use Rattle.row_store.specs.History.{CommitRecord}
use Rattle.ssb_trace.specs.Allowed.{IsAllowedCommit, IsClient, IsHeld}
use Rattle.ssb_trace.proofs.HeldLaws.{read_back}
use Rattle.ssb_trace.proofs.held.legal_trace_is_read_back.Goals as goal

pub returns : goal.returns
returns c =
    read_back c.args.base.now c.args.trace.now c.dimensions_are_taken.ensures
    (subst (AllByRecursion (λ (commit : CommitRecord). IsClient commit.client → IsAllowedCommit commit))
    c.as_slice.ensures c.commits_are_allowed.ensures)
    (subst (AllByRecursion IsHeld) c.as_slice-2.ensures c.answers_are_held.ensures)
