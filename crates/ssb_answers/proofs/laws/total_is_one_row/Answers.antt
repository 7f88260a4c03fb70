use Rattle.ssb_answers.proofs.RowLaws.{total_is_one_row}
use Rattle.ssb_answers.proofs.laws.total_is_one_row.Goals as goal

pub returns : goal.returns
returns c = λ plan found none. total_is_one_row plan found none
