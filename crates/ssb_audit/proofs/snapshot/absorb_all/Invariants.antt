use Rattle.std.proofs.Common.{◌≡◌, List, ◌++◌, take}
use Rattle.row_store.specs.History.{CommitRecord}
use Rattle.row_store.specs.State.{StandsFor, state_of}
use Rattle.fact_columns.specs.Stored.{columns_state}
use Rattle.ssb_audit.proofs.snapshot.absorb_all.Given as goal

-- the columns stand for the history and the commits so far
abbrev pub invariant-loop-commit : goal.invariant-loop-commit
invariant-loop-commit l = (history : List CommitRecord) → StandsFor (columns_state l.initial.columns) history
    → columns_state l.columns ≡ state_of l.initial.columns.base (history ++ take l.commit-index l.commits)
