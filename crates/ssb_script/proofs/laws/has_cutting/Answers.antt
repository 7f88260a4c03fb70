use Rattle.ssb_script.proofs.CuttingLaws.{text_has_cutting}
use Rattle.ssb_script.proofs.laws.has_cutting.Goals as goal

pub returns : goal.returns
returns c = text_has_cutting
