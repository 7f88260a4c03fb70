use Rattle.std.proofs.Common.{◌≡◌, take}
use Rattle.dimension_index.specs.Codes.{distinct}
use Rattle.shared_scan.specs.GroupCounts.{values_passing}
use Rattle.query_command.proofs.sizes.distinct_values.Given as goal

abbrev pub invariant-loop-row : goal.invariant-loop-row
invariant-loop-row g l =
    l.dictionary ≡ distinct (values_passing l.tests g.F.QueryFields.value_of (take l.row-index l.rows) l.place)
