use Rattle.row_store.proofs.ReplacedLaws.{putting_amends_or_adds}
use Rattle.row_store.proofs.laws.putting_amends_or_adds.Goals as goal

pub returns : goal.returns
returns c = putting_amends_or_adds
