use Rattle.fact_columns.proofs.FilterLaws.{free_places_drop_out}
use Rattle.fact_columns.proofs.filters.free_places_drop_out.Goals as goal

pub returns : goal.returns
returns c = free_places_drop_out
