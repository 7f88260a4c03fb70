use Rattle.ssb_answers.proofs.ColumnLaws.{columns_have_their_values}
use Rattle.ssb_answers.proofs.laws.columns_have_their_values.Goals as goal

pub returns : goal.returns
returns c = λ column combination read. columns_have_their_values column combination read
