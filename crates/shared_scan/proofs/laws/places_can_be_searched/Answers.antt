use Rattle.shared_scan.proofs.CanScanLaws.{can_search}
use Rattle.shared_scan.proofs.laws.places_can_be_searched.Goals as goal

pub returns : goal.returns
returns c = can_search
