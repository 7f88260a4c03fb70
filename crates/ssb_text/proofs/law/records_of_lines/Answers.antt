use Rattle.ssb_text.proofs.PlainLaws.{records_of_lines_of}
use Rattle.ssb_text.proofs.law.records_of_lines.Goals as goal

pub returns : goal.returns
returns c = records_of_lines_of
