use Rattle.std.proofs.Common.{nat_eq, refl, rules}
use Rattle.std.specs.HashMap.{get}
use Rattle.std.proofs.lemmas.Fn.{filter_same}
use Rattle.export_command.specs.Standing.{stands_yet}
use Rattle.export_command.proofs.StandingOrderLaws.{orders_swept}
use Rattle.export_command.proofs.standing_orders.StandingOrders.sweep.Goals as goal

pub returns-then-len-max-clause-left : goal.returns-then-len-max-clause-left
returns-then-len-max-clause-left c = λ loaded lines left.
    orders_swept loaded lines c.args.self.now _ refl refl refl
    (filter_same _ (stands_yet (get nat_eq c.args.self.now.numbers)) _ (λ x b f' k. search rules) _ _
    c.retain.ensures.filtered) left
