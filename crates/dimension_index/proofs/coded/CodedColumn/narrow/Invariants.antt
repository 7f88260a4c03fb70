use Rattle.std.proofs.Common.{map}
use Rattle.ssb_questions.specs.Cond.{holds}
use Rattle.dimension_index.specs.Bitmaps.{narrowed}
use Rattle.dimension_index.proofs.BitLaws.{WrittenUpTo}
use Rattle.dimension_index.proofs.coded.CodedColumn.narrow.Given as goal

abbrev pub invariant-loop-row : goal.invariant-loop-row
invariant-loop-row l = WrittenUpTo (narrowed l.initial.rows (map (holds l.cond) l.self)) l.initial.rows l.row l.rows
