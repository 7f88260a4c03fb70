use Rattle.std.proofs.Common.{◌≤◌}
use Rattle.fact_columns.proofs.loading.count_orders.Given as goal

abbrev pub invariant-loop-line : goal.invariant-loop-line
invariant-loop-line l = l.count ≤ l.line-index
