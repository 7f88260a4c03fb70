use Rattle.std.proofs.Common.{◌≡◌, ℕ, ◌<◌, length, get_or, take}
use Rattle.shared_scan.specs.declared.standing.Standing.{Standing}
use Rattle.standing_columns.specs.Standing.{questions_in}
use Rattle.standing_columns.proofs.StandingLaws.{Copies}
use Rattle.standing_columns.proofs.questions.StandingQuestions.copy.Given as goal

abbrev pub invariant-loop-batch : goal.invariant-loop-batch
invariant-loop-batch l = record {
  len : length l.batches.items ≡ l.batch-index;
  questions : questions_in l.batches.items ≡ questions_in (take l.batch-index l.self.batches.items);
  each : (k : ℕ) (s t : Standing) → k < l.batch-index
      → Copies (get_or l.self.batches.items k s) (get_or l.batches.items k t);
}
