use Rattle.row_store.proofs.HistoryLaws.{refused_changes_nothing}
use Rattle.row_store.proofs.laws.refused_changes_nothing.Goals as goal

pub returns : goal.returns
returns c = refused_changes_nothing
