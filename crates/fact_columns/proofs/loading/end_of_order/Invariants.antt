use Rattle.std.proofs.Common.{◌≡◌, ◌<◌, ◌≤◌, ◌-◌, ℕ, length, get_or}
use Rattle.ssb_schema.specs.declared.line.LineFields.{LineFields}
use Rattle.fact_columns.proofs.loading.end_of_order.Given as goal

abbrev pub invariant-loop-end : goal.invariant-loop-end
invariant-loop-end l = record {
  later : l.first < l.end;
  within : l.end ≤ length l.lines;
  alike : (i : ℕ) (line : LineFields) → l.first ≤ i → i < l.end → (get_or l.lines i line).order_key ≡ l.key;
}

abbrev pub decreases-loop-end : goal.decreases-loop-end
decreases-loop-end l = length l.lines - l.end
