use Rattle.segment_steps.proofs.StepLaws.{a_folder_has_tables_or_none}
use Rattle.segment_steps.proofs.laws.a_folder_has_tables_or_none.Goals as goal

pub returns : goal.returns
returns c = a_folder_has_tables_or_none
