use Rattle.ssb_text.proofs.RecordLaws.{begins-append, begins-longer, records-append}
use Rattle.ssb_text.proofs.law.records_of_appended.Goals as goal

pub returns : goal.returns
returns c = record { all = records-append; first = begins-append; longer = begins-longer }
