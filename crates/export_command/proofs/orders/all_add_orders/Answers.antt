use Rattle.std.proofs.Common.{[], ◌∷◌, take, rules, sym, subst}
use Rattle.std.specs.List.{AllByRecursion}
use Rattle.export_command.specs.After.{AddsOrder}
use Rattle.export_command.proofs.ApartLaws.{all_append}
use Rattle.export_command.proofs.NextLaws.{next_of}
use Rattle.export_command.proofs.orders.all_add_orders.Goals as goal

pub loop-action-preserved : goal.loop-action-preserved
loop-action-preserved c =
    let actions = c.args.actions.now in
    let i = c.loop-action.action-index in
    let action = c.action-item.result in
    subst (AllByRecursion AddsOrder) (sym (next_of actions i action (search rules) c.action-item.is))
    (all_append AddsOrder (take i actions) (action ∷ []) c.loop-action.invariant (c.adds_order.ensures, tt))
