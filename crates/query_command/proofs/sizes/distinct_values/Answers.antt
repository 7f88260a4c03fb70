use Rattle.std.proofs.Common.{◌∙◌, ap, arith, take}
use Rattle.dimension_index.specs.Codes.{distinct}
use Rattle.shared_scan.specs.GroupCounts.{values_passing}
use Rattle.query_command.proofs.SizeLaws.{values_more, known_few}
use Rattle.query_command.proofs.sizes.distinct_values.Goals as goal

pub loop-row-init : goal.loop-row-init
unfolding distinct
loop-row-init g c = c.new-dictionary.ensures

pub enter_taken-requires : goal.enter_taken-requires
enter_taken-requires g c =
    let few = known_few c.args.tests.now g.F.QueryFields.value_of c.loop-row.dictionary c.args.rows.now
    c.loop-row.row-index c.args.place c.loop-row.invariant in
    omega (arith, few, c.requires)

pub loop-row-preserved : goal.loop-row-preserved
loop-row-preserved g c =
    let value_of = g.F.QueryFields.value_of in
    let rows = c.args.rows.now in
    let before = values_passing c.args.tests.now value_of (take c.loop-row.row-index rows) c.args.place in
    c.in_ok-enter_taken.ensures before c.loop-row.invariant
    ∙ ap distinct (values_more c.args.tests.now value_of rows c.loop-row.row-index c.row-item.result c.args.place
    c.loop-row-test.true c.row-item.is)

pub returns-clause-few : goal.returns-clause-few
returns-clause-few g c =
    let few = known_few c.args.tests.now g.F.QueryFields.value_of c.loop-row.dictionary c.args.rows.now
    c.loop-row.row-index c.args.place c.loop-row.invariant in
    omega (arith, c.len.ensures, few, c.requires)
