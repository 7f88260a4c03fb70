use Rattle.ssb_text.specs.Records.{IsRecordReader}
use Rattle.ssb_hints.proofs.records.record_of.Given as goal

abbrev pub invariant-loop : goal.invariant-loop
invariant-loop g l = IsRecordReader l.reader
