use Rattle.std.proofs.Common.{List, ℕ, inl, subst}
use Rattle.std.specs.Io.KnownBytes.{Appends}
use Rattle.ssb_text.specs.Written.{AppendsPart}
use Rattle.ship_command.proofs.StreamLaws.{ships_start, ships_start_part, then_on_err, then_on_ok}
use Rattle.ship_command.proofs.shipping.send_start.Goals as goal

pub returns-clause-ships : goal.returns-clause-ships
returns-clause-ships g c =
    let groups = c.start_of.new.file.followed.groups in
    let bytes = c.in_ok-bytes.bytes.items in
    let old = g.W.Write.contents c.args.out.now in
    let new = g.W.Write.contents c.write.new.out in
    then_on_ok c.write.result _ _ (λ written. ships_start c.args.shipment.past c.args.shipment.after groups bytes old new c.in_ok-bytes.ensures.stream
    (subst (λ (b : List ℕ). Appends old new b) c.deref.ensures.value written)) c.write.ensures.written

pub returns-clause-part : goal.returns-clause-part
returns-clause-part g c =
    let groups = c.start_of.new.file.followed.groups in
    let bytes = c.in_ok-bytes.bytes.items in
    let old = g.W.Write.contents c.args.out.now in
    let new = g.W.Write.contents c.write.new.out in
    then_on_err c.write.result _ _ (λ part. inl (ships_start_part c.args.shipment.past c.args.shipment.after groups bytes old new c.in_ok-bytes.ensures.stream
    (subst (λ (b : List ℕ). AppendsPart old new b) c.deref.ensures.value part))) c.write.ensures.part
