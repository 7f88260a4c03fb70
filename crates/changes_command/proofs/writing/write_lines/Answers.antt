use Rattle.std.proofs.Common.{rules}
use Rattle.ssb_text.proofs.WrittenLaws.{appends_item, part_item, writes_stopped}
use Rattle.changes_command.specs.SignedText.{signed_text}
use Rattle.changes_command.proofs.writing.write_lines.Goals as goal

pub returns-in_err-write_signed : goal.returns-in_err-write_signed
returns-in_err-write_signed g c =
    let contents = g.W.Write.contents in
    writes_stopped _ c.from_residual.result (contents c.args.out.now) (contents c.write_signed.new.out) _
    c.from_residual.ensures.1
    (part_item (signed_text c.args.format c.args.commit c.args.sign) c.args.lines.now c.loop-line.line-index c.line-item.result
    c.line-item.result (contents c.args.out.now) (contents c.loop-line.out) (contents c.write_signed.new.out)
    (search rules) c.line-item.is c.loop-line.invariant c.in_err-write_signed.ensures)

pub loop-line-preserved : goal.loop-line-preserved
loop-line-preserved g c =
    let contents = g.W.Write.contents in
    appends_item (signed_text c.args.format c.args.commit c.args.sign) c.args.lines.now c.loop-line.line-index c.line-item.result
    c.line-item.result (contents c.args.out.now) (contents c.loop-line.out) (contents c.write_signed.new.out)
    (search rules) c.line-item.is c.loop-line.invariant c.in_ok-write_signed.ensures
