use Rattle.scan_kernel.proofs.DenseLaws.{one_row_answers}
use Rattle.scan_kernel.proofs.laws.one_row_answers.Goals as goal

pub returns : goal.returns
returns c = λ plan found count sum none counts sums. one_row_answers plan found count sum none counts sums
