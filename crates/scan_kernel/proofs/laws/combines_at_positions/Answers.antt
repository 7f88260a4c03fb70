use Rattle.scan_kernel.proofs.CombinedLaws.{combines_at_positions}
use Rattle.scan_kernel.proofs.laws.combines_at_positions.Goals as goal

pub returns : goal.returns
returns c = λ blank dimensions fact at are. combines_at_positions blank dimensions fact at are
