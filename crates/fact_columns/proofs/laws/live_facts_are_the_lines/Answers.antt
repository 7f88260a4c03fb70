use Rattle.fact_columns.proofs.ColumnLaws.{live_facts_are_the_lines}
use Rattle.fact_columns.proofs.laws.live_facts_are_the_lines.Goals as goal

pub returns : goal.returns
returns c = live_facts_are_the_lines
