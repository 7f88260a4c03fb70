use Rattle.std.proofs.Common.{All, take}
use Rattle.ssb_schema.specs.Rows.{IsWithinLimits}
use Rattle.row_store.proofs.index.look_through.Given as goal

abbrev pub invariant-loop-line : goal.invariant-loop-line
invariant-loop-line l = All IsWithinLimits (take l.line-index l.lines)
