use Rattle.history_core.proofs.ResponseLaws.{one_moment}
use Rattle.history_core.proofs.laws.answers_are_of_one_moment.Goals as goal

pub returns : goal.returns
returns c = one_moment
