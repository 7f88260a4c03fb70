use Rattle.tables_join.proofs.JoinedLaws.{legal_histories_join}
use Rattle.tables_join.proofs.laws.legal_histories_join.Goals as goal

pub returns : goal.returns
returns c = legal_histories_join
