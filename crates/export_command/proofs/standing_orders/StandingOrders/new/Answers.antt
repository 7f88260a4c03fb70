use Rattle.std.proofs.Common.{arith}
use Rattle.export_command.proofs.StandingOrderLaws.{all_stand}
use Rattle.export_command.proofs.standing_orders.StandingOrders.new.Goals as goal

pub returns : goal.returns
returns c = λ base. record {
  left = all_stand base.lines _ c.with_hasher.ensures.empty c.with_hasher-2.ensures.empty c.new.ensures.items;
  few = omega arith;
  adds = tt;
}
