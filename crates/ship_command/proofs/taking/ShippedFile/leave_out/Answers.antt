use Rattle.std.proofs.Common.{◌≡◌, ◌++◌, ◌∷◌, [], Err, ap, arith, length, length-append, rules}
use Rattle.ship_command.specs.Shipped.{TellsShipFault}
use Rattle.ship_command.specs.Taken.{HasCount}
use Rattle.ship_command.proofs.StreamLaws.{leave_more}
use Rattle.ship_command.proofs.taking.ShippedFile.leave_out.Goals as goal

pub returns-in_err-next-clause-fault : goal.returns-in_err-next-clause-fault
returns-in_err-next-clause-fault g c =
    let is : c.from_residual.result ≡ Err c.in_err-next.field-0.0 = search rules in
    let here : TellsShipFault c.args.past c.args.after (g.F.GrowingFile.seen c.next.new.self.followed.file)
    c.next.new.self.followed.groups c.next.new.self.followed.rest c.in_err-next.field-0.0 =
    c.in_err-next.ensures.fault c.args.past c.args.after in
    rw is here

pub loop-next-preserved : goal.loop-next-preserved
loop-next-preserved g c =
    let was = c.loop-next.invariant.out in
    let next = c.in-Some.next in
    let group = next.group.items in
    let old = c.loop-next.self.followed.groups in
    let new = c.next.new.self.followed.groups in
    let step : (new ≡ old ++ group ∷ []) × HasCount next.commits group = rw c.in-Some.is at c.in_ok-next.ensures.next in
    record {
      out = leave_more c.args.past c.args.after c.args.self.now.followed.groups old new c.loop-next.commits next.commits
          c.in-Some-checked_add.all group was step.0 step.1 c.in-Some-checked_add.ensures.1 c.if-all-after.true;
      some = omega (arith, ap length step.0, length-append old (group ∷ []));
      known = search rules;
    }
