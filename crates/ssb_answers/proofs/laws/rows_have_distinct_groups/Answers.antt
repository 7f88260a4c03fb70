use Rattle.ssb_answers.proofs.RowLaws.{rows_have_distinct_groups}
use Rattle.ssb_answers.proofs.laws.rows_have_distinct_groups.Goals as goal

pub returns : goal.returns
returns c = λ plan found. rows_have_distinct_groups plan found
