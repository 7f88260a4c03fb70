use Rattle.std.proofs.Common.{refl, rules}
use Rattle.json.specs.Print.{escape_byte}
use Rattle.ssb_text.proofs.WrittenLaws.{part_item, writes_stopped}
use Rattle.changes_command.proofs.json_text.write_escaped.Goals as goal

pub returns-in_err-write_byte : goal.returns-in_err-write_byte
returns-in_err-write_byte g c =
    let a = g.W.Write.contents c.args.out.now in
    let e = g.W.Write.contents c.write_byte.new.out in
    writes_stopped _ c.from_residual.result a e _ c.from_residual.ensures.1
    (part_item escape_byte c.args.bytes.now c.loop-byte.byte-index _ 0 a (g.W.Write.contents c.loop-byte.out) e
    (search rules) refl c.loop-byte.invariant c.in_err-write_byte.ensures)
