use Rattle.std.proofs.Common.{◌≡◌, Err, rules}
use Rattle.ship_command.specs.Shipped.{TellsShipFault}
use Rattle.ship_command.proofs.shipping.ship_all.Goals as goal

pub returns-in_err-send_new-clause-fault : goal.returns-in_err-send_new-clause-fault
returns-in_err-send_new-clause-fault g c =
    let file = c.send_new.new.file.followed in
    let is : c.from_residual-in_err-send_new.result ≡ Err c.in_err-send_new.field-0.0 = search rules in
    let here : TellsShipFault c.args.shipment.past c.args.shipment.after (g.F.GrowingFile.seen file.file) file.groups file.rest
    c.in_err-send_new.field-0.0 = c.in_err-send_new.ensures.fault c.args.shipment.past c.args.shipment.after in
    rw is here
