use Rattle.std.proofs.Common.{subst}
use Rattle.std.specs.List.{AllByRecursion}
use Rattle.ssb_trace.specs.Allowed.{IsAllowedLine}
use Rattle.ssb_trace.proofs.committed.order_is_allowed.Goals as goal

pub returns : goal.returns
returns c = record {
  whole = c.soundness.ensures;
  lines = subst (AllByRecursion IsAllowedLine) c.lines.ensures.lines c.are_table_rows.ensures;
}
