use Rattle.ssb_script.proofs.AloneLaws as law
use Rattle.ssb_script.proofs.laws.questions_are_a_script.Goals as goal

pub returns : goal.returns
returns c = law.is_script
