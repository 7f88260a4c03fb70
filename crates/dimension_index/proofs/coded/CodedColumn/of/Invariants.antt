use Rattle.std.proofs.Common.{map}
use Rattle.dimension_index.proofs.CodeLaws.{CodedUpTo}
use Rattle.dimension_index.proofs.coded.CodedColumn.of.Given as goal

abbrev pub invariant-loop-row : goal.invariant-loop-row
invariant-loop-row g l = CodedUpTo (map (g.F.QueryFields.value_of l.place) l.rows) l.row-index l.dictionary
    l.codes.items
