use Rattle.std.proofs.Common.{◌≡◌, ◌<◌, ◌≤◌, ◌-◌, length, take}
use Rattle.std.specs.Prelude.{slice_index_or}
use Rattle.row_store.specs.State.{state_of}
use Rattle.fact_columns.specs.Stored.{columns_state}
use Rattle.ssb_audit.specs.declared.visits.Visit.{Visit}
use Rattle.ssb_audit.proofs.WalkLaws.{IsWalked}
use Rattle.ssb_audit.proofs.walk.walk.Given as goal

-- the columns are those after as many commits as they took, which the next visit has not passed, and the answers so far
-- were looked at
abbrev pub invariant-loop-begin : goal.invariant-loop-begin
invariant-loop-begin g l = record {
  within : l.begin ≤ length l.visits;
  state : columns_state l.columns ≡ state_of l.initial.columns.base (take l.columns.commits l.commits);
  ahead : (visit : Visit) → l.begin < length l.visits → l.columns.commits ≤ (slice_index_or l.visits l.begin visit).at;
  walked : IsWalked l.initial.columns.base l.commits l.answers l.visits l.begin l.first;
}

abbrev pub decreases-loop-begin : goal.decreases-loop-begin
decreases-loop-begin g l = length l.visits - l.begin
