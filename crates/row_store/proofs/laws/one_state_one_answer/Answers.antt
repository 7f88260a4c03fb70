use Rattle.row_store.proofs.RearrangedLaws.{one_state_one_answer}
use Rattle.row_store.proofs.laws.one_state_one_answer.Goals as goal

pub returns : goal.returns
returns c = one_state_one_answer
