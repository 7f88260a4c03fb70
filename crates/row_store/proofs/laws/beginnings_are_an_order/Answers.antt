use Rattle.row_store.proofs.PrefixLaws.{begins_with_itself, beginnings_chain, as_long_is_the_whole}
use Rattle.row_store.proofs.PrefixLaws.{beginnings_are_shorter}
use Rattle.row_store.proofs.laws.beginnings_are_an_order.Goals as goal

pub returns-clause-itself : goal.returns-clause-itself
returns-clause-itself c = begins_with_itself

pub returns-clause-chain : goal.returns-clause-chain
returns-clause-chain c = beginnings_chain

pub returns-clause-whole : goal.returns-clause-whole
returns-clause-whole c = as_long_is_the_whole

pub returns-clause-shorter : goal.returns-clause-shorter
returns-clause-shorter c = beginnings_are_shorter
