use Rattle.ssb_text.specs.Records.{IsRecordReader}
use Rattle.ssb_trace.specs.Entries.{IsUnfinished}
use Rattle.ssb_trace.proofs.ReadingLaws.{HasReadKnown}
use Rattle.ssb_trace.proofs.trace.read_trace.Given as goal

abbrev pub invariant-loop-before : goal.invariant-loop-before
invariant-loop-before g l = record {
  ready : IsRecordReader l.reader;
  unfinished : IsUnfinished l.before l.begun;
  so_far : HasReadKnown g.R.Read.remaining (g.R.Read.remaining l.fn.source) l.reader l.before l.commits.items
      l.answers.items l.begun;
}
