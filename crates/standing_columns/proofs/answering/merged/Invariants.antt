use Rattle.std.proofs.Common.{◌≡◌, List, length, not, take, drop}
use Rattle.std.specs.List.{filter}
use Rattle.std.specs.Vec.Iter.{into_iter_items, into_iter_len}
use Rattle.row_store.specs.History.{CommitRecord}
use Rattle.row_store.specs.State.{StandsFor}
use Rattle.fact_columns.specs.Stored.{columns_state}
use Rattle.shared_scan.specs.Answers.{answers_after}
use Rattle.standing_columns.specs.Standing.{stands}
use Rattle.standing_columns.proofs.answering.merged.Given as goal

-- the rows of the questions so far, and those that were found for the others that are left
abbrev pub invariant-loop-question : goal.invariant-loop-question
invariant-loop-question l = record {
  len : into_iter_len l.found ≡ length (into_iter_items l.found);
  right : (history : List CommitRecord) → StandsFor (columns_state l.columns) history
      → (l.rows.items ≡ answers_after l.columns.base history (take l.question-index l.questions))
      × (into_iter_items l.found ≡ answers_after l.columns.base history
      (filter (λ question. not (stands l.standing question)) (drop l.question-index l.questions)));
}
