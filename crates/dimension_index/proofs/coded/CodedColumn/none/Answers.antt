use Rattle.dimension_index.proofs.CodeLaws.{coded_nothing}
use Rattle.dimension_index.proofs.coded.CodedColumn.none.Goals as goal

pub invariant_of-result : goal.invariant_of-result
invariant_of-result c = coded_nothing c.new.result c.new-2.result.items c.new.ensures c.new-2.ensures.items
