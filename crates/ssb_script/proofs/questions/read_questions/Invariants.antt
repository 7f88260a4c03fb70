use Rattle.ssb_text.specs.Records.{IsRecordReader}
use Rattle.ssb_script.proofs.QuestionsLaws.{HasAskedKnown}
use Rattle.ssb_script.proofs.questions.read_questions.Given as goal

abbrev pub invariant-loop-before : goal.invariant-loop-before
invariant-loop-before g l = record {
  ready : IsRecordReader l.reader;
  so_far : HasAskedKnown g.R.Read.remaining (g.R.Read.remaining l.fn.source) l.reader l.before l.questions.items;
}
