use Rattle.scan_kernel.proofs.GroupLaws.{codes_number_groups}
use Rattle.scan_kernel.proofs.laws.codes_number_groups.Goals as goal

pub returns : goal.returns
returns c = λ plan columns combination h. codes_number_groups plan columns combination h
