use Rattle.std.proofs.Common.{◌≡◌, ℕ, ◌-◌, ◌≤◌, ◌<◌, length}
use Rattle.std.specs.Prelude.{slice_index_or}
use Rattle.history.proofs.token.position.Given as goal

abbrev pub invariant-loop-turns : goal.invariant-loop-turns
invariant-loop-turns l = record {
  at : ℕ;
  low : l.turns ≤ at;
  within : at < length l.fn.hand;
  here : slice_index_or l.fn.hand at l.fn.place ≡ l.fn.place;
}

abbrev pub decreases-loop-turns : goal.decreases-loop-turns
decreases-loop-turns l = length l.fn.hand - l.turns
