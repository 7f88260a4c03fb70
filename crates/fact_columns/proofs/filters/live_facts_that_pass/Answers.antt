use Rattle.fact_columns.proofs.FilterLaws.{live_facts_that_pass}
use Rattle.fact_columns.proofs.filters.live_facts_that_pass.Goals as goal

pub returns : goal.returns
returns c = live_facts_that_pass
