use Rattle.row_store.proofs.FactCountLaws.{one_fact_counts_once, appended_facts_count, without_an_order, facts_commute}
use Rattle.row_store.proofs.laws.counts_follow_facts.Goals as goal

pub returns-clause-more : goal.returns-clause-more
returns-clause-more c = one_fact_counts_once

pub returns-clause-appended : goal.returns-clause-appended
returns-clause-appended c = appended_facts_count

pub returns-clause-without : goal.returns-clause-without
returns-clause-without c = without_an_order

pub returns-clause-commute : goal.returns-clause-commute
returns-clause-commute c = facts_commute
