use Rattle.scan_kernel.proofs.GroupLaws.{codes_are_numbered}
use Rattle.scan_kernel.proofs.laws.codes_are_numbered.Goals as goal

pub returns : goal.returns
returns c = λ counts. codes_are_numbered counts
