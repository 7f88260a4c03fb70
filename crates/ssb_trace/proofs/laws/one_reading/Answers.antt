use Rattle.ssb_trace.proofs.OneReadingLaws as law
use Rattle.ssb_trace.proofs.laws.one_reading.Goals as goal

pub returns : goal.returns
returns c = law.one_reading
