use Rattle.std.proofs.Common.{◌≡◌, Err, rules}
use Rattle.ship_command.specs.Shipped.{TellsShipFault}
use Rattle.ship_command.proofs.shipping.wait_for_head.Goals as goal

pub returns-in_err-head-clause-fault : goal.returns-in_err-head-clause-fault
returns-in_err-head-clause-fault g c =
    let is : c.from_residual.result ≡ Err c.in_err-head.field-0.0 = search rules in
    let here : TellsShipFault c.args.shipment.past c.args.shipment.after (g.F.GrowingFile.seen c.head.new.self.followed.file)
    c.head.new.self.followed.groups c.head.new.self.followed.rest c.in_err-head.field-0.0 =
    c.in_err-head.ensures.fault c.args.shipment.past c.args.shipment.after in
    rw is here

pub returns-in_err-found-clause-fault : goal.returns-in_err-found-clause-fault
returns-in_err-found-clause-fault g c =
    let is : c.from_residual-in_err-found.result ≡ Err c.in_err-found.field-0.0 = search rules in
    let here : TellsShipFault c.args.shipment.past c.args.shipment.after (g.F.GrowingFile.seen c.head-2.new.self.followed.file)
    c.head-2.new.self.followed.groups c.head-2.new.self.followed.rest c.in_err-found.field-0.0 =
    c.in_err-found.ensures.fault c.args.shipment.past c.args.shipment.after in
    rw is here
