use Rattle.row_store.proofs.RearrangedLaws.{equal_counts_rearrange}
use Rattle.row_store.proofs.laws.equal_counts_rearrange.Goals as goal

pub returns : goal.returns
returns c = equal_counts_rearrange
