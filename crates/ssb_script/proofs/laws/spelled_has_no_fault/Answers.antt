use Rattle.ssb_script.proofs.FaultLaws as law
use Rattle.ssb_script.proofs.laws.spelled_has_no_fault.Goals as goal

pub returns : goal.returns
returns c = law.spelled_has_no_fault
