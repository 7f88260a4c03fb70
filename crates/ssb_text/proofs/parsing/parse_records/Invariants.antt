use Rattle.std.proofs.Common.{map}
use Rattle.ssb_schema.specs.Rows.{line_values}
use Rattle.ssb_text.specs.Records.{IsRecordReader}
use Rattle.ssb_text.proofs.ParsingLaws.{HasParsed}
use Rattle.ssb_text.proofs.parsing.parse_records.Given as goal

abbrev pub invariant-loop : goal.invariant-loop
invariant-loop l = record {
  ready : IsRecordReader l.reader;
  so_far : HasParsed l.block l.reader (map line_values l.lines.items);
}
