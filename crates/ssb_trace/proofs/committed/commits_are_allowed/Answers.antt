use Rattle.std.proofs.Common.{refl}
use Rattle.row_store.specs.History.{CommitRecord}
use Rattle.ssb_trace.specs.Allowed.{IsAllowedCommit, IsClient}
use Rattle.ssb_text.proofs.EachLaws.{all_held, one_more}
use Rattle.ssb_trace.proofs.committed.commits_are_allowed.Goals as goal

pub loop-commit-preserved : goal.loop-commit-preserved
loop-commit-preserved c =
    one_more (λ (commit : CommitRecord). IsClient commit.client → IsAllowedCommit commit)
    c.args.commits.now c.loop-commit.commit-index
    c.commit-item.result c.loop-commit-test.true c.commit-item.is c.commit_is_allowed.ensures c.loop-commit.invariant

pub returns : goal.returns
returns c =
    all_held (λ (commit : CommitRecord). IsClient commit.client → IsAllowedCommit commit)
    c.args.commits.now c.args.commits.now
    c.loop-commit.commit-index c.loop-commit-test.false refl c.loop-commit.invariant
