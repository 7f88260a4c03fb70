use Rattle.std.proofs.Common.{◌<◌, ◌≤◌, ◌-◌, ℕ, length, get_or, nat_eq}
use Rattle.std.specs.HashMap.{get}
use Rattle.ssb_schema.specs.declared.line.LineFields.{LineFields}
use Rattle.fact_columns.specs.Spans.{Covers}
use Rattle.fact_columns.proofs.loading.span_all.Given as goal

abbrev pub invariant-loop-at : goal.invariant-loop-at
invariant-loop-at l = record {
  within : l.at ≤ length l.lines;
  covered : (i : ℕ) (line : LineFields) → i < l.at → Covers (get nat_eq l.spans (get_or l.lines i line).order_key) i;
}

abbrev pub decreases-loop-at : goal.decreases-loop-at
decreases-loop-at l = length l.lines - l.at
