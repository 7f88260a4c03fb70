use Rattle.std.proofs.Common.{Some, ap, ◌∙◌, subst}
use Rattle.row_store.proofs.ReplacedLaws.{replaced_added}
use Rattle.row_store.specs.Lines.{added_by}
use Rattle.export_command.specs.After.{AddsOrder}
use Rattle.export_command.proofs.ExportLaws.{on_ok}
use Rattle.export_command.proofs.FollowLaws.{at_place, notes_add, notes_replace, notes_withdraw, own_lines}
use Rattle.export_command.proofs.FollowLaws.{replaced_order}
use Rattle.export_command.proofs.standing_orders.StandingOrders.note.Goals as goal

pub join-requires-clause-own : goal.join-requires-clause-own
join-requires-clause-own c =
    let actions = c.args.refresh.now.value in
    let place = c.args.place in
    let action = c.index-actions-place.result in
    own_lines actions place c.key.result action c.in-Add.order
    (at_place c.actions.result.now actions place action (cc) c.requires.within c.index-actions-place.is)
    (ap added_by c.in-Add.is) (subst AddsOrder c.in-Add.is c.adds_order.ensures) c.key.ensures

pub join-requires-in-Amend-clause-own : goal.join-requires-in-Amend-clause-own
join-requires-in-Amend-clause-own c =
    let actions = c.args.refresh.now.value in
    let place = c.args.place in
    let action = c.index-actions-place.result in
    own_lines actions place c.key-key.result action c.in-Amend.order
    (at_place c.actions.result.now actions place action (cc) c.requires.within c.index-actions-place.is)
    (replaced_added action c.in-Amend.order c.in-Amend.is)
    (replaced_order action c.in-Amend.order c.in-Amend.is c.adds_order.ensures) c.key-key.ensures

pub returns-in-Add-clause-left : goal.returns-in-Add-clause-left
returns-in-Add-clause-left c =
    let actions = c.args.refresh.now.value in
    let place = c.args.place in
    let action = c.index-actions-place.result in
    on_ok _ _ c.join.result
    (notes_add actions place c.key.result c.in-Add.order c.args.self.now c.join.new.self
    (at_place c.actions.result.now actions place action (cc) c.requires.within c.index-actions-place.is
    ∙ ap Some c.in-Add.is)
    c.key.ensures) c.join.ensures.left

pub returns-in_ok-leave-in-Amend-clause-left : goal.returns-in_ok-leave-in-Amend-clause-left
returns-in_ok-leave-in-Amend-clause-left c =
    let actions = c.args.refresh.now.value in
    let place = c.args.place in
    let action = c.index-actions-place.result in
    on_ok _ _ c.join-in-Amend.result
    (notes_replace actions place c.key-key.result action c.in-Amend.order c.args.self.now c.leave-in-Amend.new.self
    c.join-in-Amend.new.self
    (at_place c.actions.result.now actions place action (cc) c.requires.within c.index-actions-place.is) c.in-Amend.is
    c.key-key.ensures c.in_ok-leave-in-Amend.ensures.left) c.join-in-Amend.ensures.left

pub returns-in-Withdraw-clause-left : goal.returns-in-Withdraw-clause-left
returns-in-Withdraw-clause-left c =
    let actions = c.args.refresh.now.value in
    let place = c.args.place in
    let action = c.index-actions-place.result in
    on_ok _ _ c.leave.result
    (notes_withdraw actions place c.in-Withdraw.key c.args.self.now c.leave.new.self
    (at_place c.actions.result.now actions place action (cc) c.requires.within c.index-actions-place.is
    ∙ ap Some c.in-Withdraw.is)) c.leave.ensures.left
