use Rattle.segment_steps.proofs.StepLaws.{appending_is_a_step}
use Rattle.segment_steps.proofs.laws.appending_is_a_step.Goals as goal

pub returns : goal.returns
returns c = appending_is_a_step
