use Rattle.ssb_script.proofs.CuttingLaws.{cut_as_it_comes_on}
use Rattle.ssb_script.proofs.laws.cut_as_it_comes.Goals as goal

pub returns : goal.returns
returns c = cut_as_it_comes_on
