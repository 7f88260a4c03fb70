use Rattle.std.proofs.Common.{length, map}
use Rattle.ssb_schema.specs.Rows.{line_values}
use Rattle.ssb_text.specs.TextLines.{HasNoMark}
use Rattle.ssb_text.proofs.DirectLaws.{HasTaken}
use Rattle.ssb_text.proofs.direct.read_directly.Given as goal

abbrev pub invariant-loop-first : goal.invariant-loop-first
invariant-loop-first l = record {
  unmarked : HasNoMark l.block;
  taken : HasTaken l.block l.rest (map line_values l.lines.items);
}

abbrev pub decreases-loop-first : goal.decreases-loop-first
decreases-loop-first l = length l.rest
