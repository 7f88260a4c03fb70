use Rattle.store_core.proofs.FindLaws.{one_finding}
use Rattle.store_core.proofs.laws.one_finding.Goals as goal

pub returns : goal.returns
returns g c = one_finding
