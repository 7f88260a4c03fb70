use Rattle.std.proofs.Common.{◌≤◌, length}
use Rattle.ssb_text.specs.TextLines.{HasNoLineEnd}
use Rattle.ssb_script.specs.Taking.{Took}
use Rattle.ssb_script.proofs.pieces.next_line.Given as goal

abbrev pub invariant-loop : goal.invariant-loop
invariant-loop g l = record {
  within : length l.buffer.items ≤ l.limit;
  took : Took (g.R.Read.remaining l.fn.reader) (g.R.Read.remaining l.reader) l.fn.buffer.items l.buffer.items
      HasNoLineEnd;
}
