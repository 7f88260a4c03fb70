use Rattle.row_store.proofs.PrefixLaws.{one_more_begins_with_it, beginnings_of_one_agree}
use Rattle.row_store.proofs.laws.histories_grow.Goals as goal

pub returns-clause-one_more : goal.returns-clause-one_more
returns-clause-one_more c = one_more_begins_with_it

pub returns-clause-agree : goal.returns-clause-agree
returns-clause-agree c = beginnings_of_one_agree
