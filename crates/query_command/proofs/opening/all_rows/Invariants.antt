use Rattle.std.proofs.Common.{◌≡◌, ◌++◌, List, length}
use Rattle.row_store.specs.History.{CommitRecord}
use Rattle.row_store.specs.State.{StandsFor}
use Rattle.fact_columns.specs.Stored.{columns_state}
use Rattle.shared_scan.specs.Answers.{answers_after}
use Rattle.query_command.proofs.opening.all_rows.Given as goal

-- the rows so far, and those of the questions that are left
abbrev pub invariant-loop-rest : goal.invariant-loop-rest
invariant-loop-rest g l =
    (history : List CommitRecord) → StandsFor (columns_state l.columns) history
    → l.rows.items ++ answers_after l.columns.base history l.rest ≡ answers_after l.columns.base history l.questions

abbrev pub decreases-loop-rest : goal.decreases-loop-rest
decreases-loop-rest g l = length l.rest
