use Rattle.std.proofs.Common.{◌≡◌, Err, ℕ, rules}
use Rattle.ship_command.specs.Shipped.{TellsShipFault}
use Rattle.ship_command.proofs.StreamLaws.{on_err}
use Rattle.ship_command.proofs.shipping.send_as_they_come.Goals as goal

pub returns-in_err-send_new-clause-part : goal.returns-in_err-send_new-clause-part
returns-in_err-send_new-clause-part g c =
    on_err c.from_residual.result _ (λ past after first ships.
    c.in_err-send_new.ensures.part past after first (c.loop.invariant.ships past after first ships))

pub returns-in_err-send_alive-clause-part : goal.returns-in_err-send_alive-clause-part
returns-in_err-send_alive-clause-part g c =
    on_err c.from_residual-in_err-send_alive.result _ (λ past after first ships.
    c.in_err-send_alive.ensures.part past after c.send_new.new.file.followed.groups first
    (c.in_ok-send_new.ensures.ships past after first (c.loop.invariant.ships past after first ships)))

pub returns-in_err-send_alive-clause-fault : goal.returns-in_err-send_alive-clause-fault
returns-in_err-send_alive-clause-fault g c =
    let file = c.send_new.new.file.followed in
    let is : c.from_residual-in_err-send_alive.result ≡ Err c.in_err-send_alive.field-0.0 = search rules in
    let here : (past after : ℕ) → TellsShipFault past after (g.F.GrowingFile.seen file.file) file.groups file.rest
    c.in_err-send_alive.field-0.0 = λ past after.
    c.in_err-send_alive.ensures.fault past after (g.F.GrowingFile.seen file.file) file.groups file.rest in
    rw is here
