use Rattle.std.proofs.Common.{[], arith}
use Rattle.fact_columns.proofs.CodingLaws.{codes_more}
use Rattle.fact_columns.proofs.coding.table_of_piece.Goals as goal

pub loop-line-preserved : goal.loop-line-preserved
loop-line-preserved c = record {
  codes = codes_more c.args.index.now.dimensions [] c.args.lines.now c.loop-line.line-index c.line-item.result
      c.loop-line.table.places c.push.new.self.places c.in_ok-coded.field-0 c.loop-line-test.true c.line-item.is
      c.push.ensures.places c.loop-line.invariant.codes c.in_ok-coded.ensures;
  room = omega (arith, c.push.ensures.room, c.loop-line.invariant.room);
}
