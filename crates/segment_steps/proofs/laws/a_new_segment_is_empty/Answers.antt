use Rattle.segment_steps.proofs.StepLaws.{a_new_segment_is_empty}
use Rattle.segment_steps.proofs.laws.a_new_segment_is_empty.Goals as goal

pub returns : goal.returns
returns c = a_new_segment_is_empty c.one_list_of_commits.ensures
