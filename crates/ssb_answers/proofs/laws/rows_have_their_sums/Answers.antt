use Rattle.std.proofs.Common.{ap}
use Rattle.ssb_answers.specs.declared.answer.ResultRow.{ResultRow}
use Rattle.ssb_answers.proofs.RowLaws.{row_of_its_group}
use Rattle.ssb_answers.proofs.laws.rows_have_their_sums.Goals as goal

pub returns : goal.returns
returns c = λ plan found row h. ap (λ (r : ResultRow). r.sum) (row_of_its_group plan found row h)
