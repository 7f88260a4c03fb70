use Rattle.scan_kernel.proofs.DenseLaws.{sorted_rows_answer}
use Rattle.scan_kernel.proofs.laws.sorted_rows_answer.Goals as goal

pub returns : goal.returns
returns c = λ plan found number size groups count sum rows orders grouped dense moved sorted. sorted_rows_answer plan
    found number size groups count sum dense orders rows grouped moved sorted
