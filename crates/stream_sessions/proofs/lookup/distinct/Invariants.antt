use Rattle.std.proofs.Common.{◌≡◌, ◌≤◌, length, map, drop}
use Rattle.ssb_answers.specs.Ordered.{in_order}
use Rattle.ssb_questions.specs.Value.{value_cmp}
use Rattle.stream_sessions.proofs.lookup.distinct.Given as goal

-- the values of the rows from this one on are there
abbrev pub invariant-loop-left : goal.invariant-loop-left
invariant-loop-left g l = (l.left ≤ length l.rows)
    × (l.values.keys ≡ in_order value_cmp (map (g.F.QueryFields.value_of l.place) (drop l.left l.rows)))

abbrev pub decreases-loop-left : goal.decreases-loop-left
decreases-loop-left g l = l.left
