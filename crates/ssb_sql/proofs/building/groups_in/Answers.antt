use Rattle.ssb_sql.proofs.SaidLaws.{groups_more}
use Rattle.ssb_sql.proofs.building.groups_in.Goals as goal

pub loop-number-preserved : goal.loop-number-preserved
loop-number-preserved c =
    groups_more c.args.pieces.now c.loop-number.number _ c.loop-number.groups.items c.push_group.new.groups.items
    c.loop-number-test.true c.in_ok-push_group.ensures c.loop-number.invariant
