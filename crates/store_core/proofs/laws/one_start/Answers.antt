use Rattle.store_core.proofs.StartLaws.{one_start}
use Rattle.store_core.proofs.laws.one_start.Goals as goal

pub returns : goal.returns
returns g c = λ store found other a b. one_start store found other a b
