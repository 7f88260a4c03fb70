use Rattle.scan_kernel.proofs.GroupLaws.{groups_are_apart}
use Rattle.scan_kernel.proofs.laws.groups_are_apart.Goals as goal

pub returns : goal.returns
returns c = λ columns apart g h g_below h_below e. groups_are_apart columns apart g h g_below h_below e
