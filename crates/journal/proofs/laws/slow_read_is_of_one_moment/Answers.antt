use Rattle.journal.proofs.GrowingLaws.{reads}
use Rattle.journal.proofs.laws.slow_read_is_of_one_moment.Goals as goal

pub returns : goal.returns
returns c = λ first bytes last moments shut read. (let r = reads first moments bytes last shut read in (r.begun, (r.ended, r.shut)))
