use Rattle.std.proofs.Common.{◌≡◌, false, take}
use Rattle.std.specs.Prelude.{is_some}
use Rattle.std.specs.List.{list_any}
use Rattle.shared_scan.specs.Follows.{position_in}
use Rattle.shared_scan.specs.declared.standing.Standing.{Standing}
use Rattle.standing_columns.proofs.questions.StandingQuestions.rows.Given as goal

-- it stands in none of the batches so far
abbrev pub invariant-loop-batch : goal.invariant-loop-batch
invariant-loop-batch l =
    list_any (λ (batch : Standing). is_some (position_in batch l.question)) (take l.batch-index l.self.batches.items)
    ≡ false
