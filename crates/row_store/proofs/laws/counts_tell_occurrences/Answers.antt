use Rattle.row_store.proofs.FactCountLaws.{same_facts_are_equal, counts_tell_occurrences, rearranged_count_equal}
use Rattle.row_store.proofs.laws.counts_tell_occurrences.Goals as goal

pub returns-clause-same : goal.returns-clause-same
returns-clause-same c = same_facts_are_equal

pub returns-clause-counts : goal.returns-clause-counts
returns-clause-counts c = counts_tell_occurrences

pub returns-clause-rearranged : goal.returns-clause-rearranged
returns-clause-rearranged c = rearranged_count_equal
