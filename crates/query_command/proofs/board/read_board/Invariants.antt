use Rattle.ssb_text.specs.Records.{IsRecordReader}
use Rattle.query_command.proofs.BoardLaws.{HasReadKnown}
use Rattle.query_command.proofs.board.read_board.Given as goal

abbrev pub invariant-loop-before : goal.invariant-loop-before
invariant-loop-before g l = record {
  ready : IsRecordReader l.reader;
  so_far : HasReadKnown g.R.Read.remaining (g.R.Read.remaining l.fn.source) l.reader l.before l.titles.items
      l.asked.items;
}
