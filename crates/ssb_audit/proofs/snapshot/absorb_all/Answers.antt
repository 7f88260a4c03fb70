use Rattle.fact_columns.specs.Stored.{columns_state}
use Rattle.ssb_audit.proofs.SnapshotLaws.{absorbed, absorbed_none}
use Rattle.ssb_audit.proofs.snapshot.absorb_all.Goals as goal

pub loop-commit-init : goal.loop-commit-init
loop-commit-init c = λ history stands. absorbed_none (columns_state c.args.columns.now) history c.args.commits.now
    stands

pub loop-commit-preserved : goal.loop-commit-preserved
loop-commit-preserved c = λ history stands. absorbed (columns_state c.loop-commit.columns)
    (columns_state c.absorb.new.self) c.args.columns.now.base history c.args.commits.now
    c.loop-commit.commit-index c.commit-item.result c.loop-commit-test.true c.commit-item.is
    (c.loop-commit.invariant history stands) c.in_ok-absorb.ensures.state
