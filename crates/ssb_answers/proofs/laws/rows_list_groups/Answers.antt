use Rattle.ssb_answers.proofs.RowLaws.{rows_list_groups, no_other_rows}
use Rattle.ssb_answers.proofs.laws.rows_list_groups.Goals as goal

pub returns : goal.returns
returns c = λ plan found orders grouped.
    (rows_list_groups plan found orders grouped, no_other_rows plan found orders grouped)
