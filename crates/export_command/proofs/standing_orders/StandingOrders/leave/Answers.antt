use Rattle.std.proofs.Common.{◌≡◌, nat_eq, true, refl, sym, ap, ◌∙◌}
use Rattle.std.specs.HashMap.{get}
use Rattle.std.specs.HashSet.{contains}
use Rattle.std.specs.Prelude.{is_some}
use Rattle.export_command.specs.Standing.{left_of_loaded}
use Rattle.export_command.proofs.StandingOrderLaws.{loaded_without, none_own, order_leaves}
use Rattle.export_command.proofs.standing_orders.StandingOrders.leave.Goals as goal

pub returns-in_ok-insert-clause-left : goal.returns-in_ok-insert-clause-left
returns-in_ok-insert-clause-left c = λ loaded lines left.
    let old = c.args.self.now in
    order_leaves loaded lines c.args.key old _ refl refl c.remove.ensures.updates.0
    (loaded_without (contains nat_eq old.gone) (contains nat_eq c.insert.new.self) c.args.key loaded
    c.in_ok-insert.ensures.updates.0) left

pub returns-else-is_none-clause-left : goal.returns-else-is_none-clause-left
returns-else-is_none-clause-left c = λ loaded lines left.
    let old = c.args.self.now in
    let some : is_some (get nat_eq old.numbers c.args.key) ≡ true =
    ap is_some (sym c.remove.ensures.value) ∙ c.if-is_none.ensures in
    order_leaves loaded lines c.args.key old _ refl refl c.remove.ensures.updates.0
    (sym (none_own c.args.key (left_of_loaded (contains nat_eq old.gone) loaded) (left.apart c.args.key some))) left
