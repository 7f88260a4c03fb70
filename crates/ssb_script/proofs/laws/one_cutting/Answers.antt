use Rattle.ssb_script.proofs.CuttingLaws.{cut_in_one_way}
use Rattle.ssb_script.proofs.laws.one_cutting.Goals as goal

pub returns : goal.returns
returns c = cut_in_one_way
