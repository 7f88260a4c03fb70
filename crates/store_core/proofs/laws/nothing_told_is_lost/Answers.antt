use Rattle.store_core.proofs.RunLaws.{nothing_told_is_lost}
use Rattle.store_core.proofs.laws.nothing_told_is_lost.Goals as goal

pub returns : goal.returns
returns g c = λ next first steps run left may. nothing_told_is_lost next first steps run left may
