use Rattle.std.proofs.Common.{ap, length, sym}
use Rattle.dimension_index.specs.Codes.{distinct}
use Rattle.shared_scan.specs.GroupCounts.{passing_values}
use Rattle.ssb_schema.specs.declared.table.Table.{Table}
use Rattle.query_command.proofs.sizes.values_of_group.Goals as goal

pub returns-in-Lineorder-clause-values : goal.returns-in-Lineorder-clause-values
unfolding distinct
returns-in-Lineorder-clause-values c =
    let count_of = λ (table : Table).
    length (distinct (passing_values c.args.base.now.dimensions c.args.plan.now table c.args.column.place)) in
    ap count_of (sym c.in-Lineorder.is)
