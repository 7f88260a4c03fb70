use Rattle.history_core.proofs.ResponseLaws.{in_order}
use Rattle.history_core.proofs.laws.answers_are_in_order.Goals as goal

pub returns : goal.returns
returns c = in_order
