use Rattle.std.proofs.Common.{map}
use Rattle.ssb_text.specs.Records.{IsRecordReader}
use Rattle.ssb_script.specs.Requests.{request_of}
use Rattle.ssb_script.specs.Scripts.{HasRoom}
use Rattle.ssb_script.specs.Steps.{begun_in}
use Rattle.ssb_script.proofs.ReadingLaws.{HasReadKnown}
use Rattle.ssb_script.proofs.script.read_script.Given as goal

abbrev pub invariant-loop-before : goal.invariant-loop-before
invariant-loop-before g l = record {
  ready : IsRecordReader l.reader;
  room : HasRoom l.before (begun_in l.begun);
  so_far : HasReadKnown g.R.Read.remaining (g.R.Read.remaining l.fn.source) l.reader l.before
      (map request_of l.requests.items) (begun_in l.begun);
}
