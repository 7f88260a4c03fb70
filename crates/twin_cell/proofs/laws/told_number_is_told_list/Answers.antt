use Rattle.twin_cell.proofs.CopyLaws.{told_number_is_told_list}
use Rattle.twin_cell.proofs.laws.told_number_is_told_list.Goals as goal

pub returns : goal.returns
returns c = told_number_is_told_list
