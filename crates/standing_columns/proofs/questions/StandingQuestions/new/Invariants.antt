use Rattle.std.proofs.Common.{◌≡◌, ◌++◌, length}
use Rattle.std.specs.List.{All}
use Rattle.fact_columns.specs.Watching.{live_lines}
use Rattle.shared_scan.specs.Follows.{FollowsOver}
use Rattle.shared_scan.specs.GroupCounts.{HasFewGroups}
use Rattle.shared_scan.specs.declared.standing.Standing.{Standing}
use Rattle.standing_columns.specs.Standing.{each_once, questions_in}
use Rattle.standing_columns.proofs.questions.StandingQuestions.new.Given as goal

-- the batches so far have the first questions, none of which has many groups, and follow the live lines
abbrev pub invariant-loop-rest : goal.invariant-loop-rest
invariant-loop-rest g l = record {
  questions : questions_in l.batches.items ++ l.rest ≡ each_once l.questions;
  few : All (HasFewGroups l.columns.base) (questions_in l.batches.items);
  follow : All (λ (batch : Standing). FollowsOver batch l.columns.base (live_lines l.columns.places)) l.batches.items;
}

abbrev pub decreases-loop-rest : goal.decreases-loop-rest
decreases-loop-rest g l = length l.rest
