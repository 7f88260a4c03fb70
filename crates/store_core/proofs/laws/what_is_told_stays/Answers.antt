use Rattle.store_core.proofs.RunLaws.{what_is_told_stays}
use Rattle.store_core.proofs.laws.what_is_told_stays.Goals as goal

pub returns : goal.returns
returns g c = λ next first steps later run. what_is_told_stays next first steps later run
