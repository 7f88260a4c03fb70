use Rattle.tables_join.proofs.JoinedLaws.{tables_join}
use Rattle.tables_join.proofs.laws.tables_join.Goals as goal

pub returns : goal.returns
returns c = tables_join
