use Rattle.row_store.proofs.FewLaws.{legal_histories_are_few}
use Rattle.row_store.proofs.laws.legal_histories_are_few.Goals as goal

pub returns : goal.returns
returns c = legal_histories_are_few
