use Rattle.store_core.proofs.CopyLaws.{copies_are_true}
use Rattle.store_core.proofs.laws.copies_are_true.Goals as goal

pub returns : goal.returns
returns g c = λ next first steps run copy is found finds. copies_are_true next first steps run copy is found finds
