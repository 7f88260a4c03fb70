use Rattle.std.proofs.Common.{sym}
use Rattle.ssb_text.proofs.WrittenLaws.{appends_item, part_item, writes_stopped}
use Rattle.changes_command.specs.SignedText.{signed_text}
use Rattle.changes_command.proofs.TextLaws.{read_there}
use Rattle.changes_command.proofs.writing.write_order.Goals as goal

pub returns-in_err-write_signed : goal.returns-in_err-write_signed
returns-in_err-write_signed g c =
    let contents = g.W.Write.contents in
    let there = read_there c.args.order.now c.loop-place.place c.in-Some.line.now (sym c.in-Some.ensures) in
    writes_stopped _ c.from_residual.result (contents c.args.out.now) (contents c.write_signed.new.out) _
    c.from_residual.ensures.1
    (part_item (signed_text c.args.format c.args.commit c.args.sign) c.args.order.now c.loop-place.place c.in-Some.line.now
    c.in-Some.line.now (contents c.args.out.now) (contents c.loop-place.out) (contents c.write_signed.new.out)
    there.0 there.1 c.loop-place.invariant c.in_err-write_signed.ensures)

pub loop-place-preserved : goal.loop-place-preserved
loop-place-preserved g c =
    let contents = g.W.Write.contents in
    let there = read_there c.args.order.now c.loop-place.place c.in-Some.line.now (sym c.in-Some.ensures) in
    appends_item (signed_text c.args.format c.args.commit c.args.sign) c.args.order.now c.loop-place.place c.in-Some.line.now
    c.in-Some.line.now (contents c.args.out.now) (contents c.loop-place.out) (contents c.write_signed.new.out)
    there.0 there.1 c.loop-place.invariant c.in_ok-write_signed.ensures
