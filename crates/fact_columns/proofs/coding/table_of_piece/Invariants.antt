use Rattle.std.proofs.Common.{◌+◌, ◌≤◌, length, take}
use Rattle.ssb_schema.specs.Facts.{facts_of}
use Rattle.fact_columns.specs.Coded.{AreCodesOf}
use Rattle.fact_columns.proofs.coding.table_of_piece.Given as goal

abbrev pub invariant-loop-line : goal.invariant-loop-line
invariant-loop-line l = record {
  codes : AreCodesOf l.index.dimensions (facts_of (take l.line-index l.lines)) l.table.places;
  room : length l.lines ≤ l.table.room + l.line-index;
}
