use Rattle.json.specs.Print.{quoted}
use Rattle.ssb_text.proofs.WrittenLaws.{part_longer, writes_next, writes_stopped}
use Rattle.changes_command.proofs.json_text.write_member.Goals as goal

pub returns-in_err-write_bytes-in-Text : goal.returns-in_err-write_bytes-in-Text
returns-in_err-write_bytes-in-Text g c =
    let contents = g.W.Write.contents in
    let a = contents c.args.out.now in
    let b = contents c.write_bytes.new.writer in
    writes_stopped _ c.from_residual.result a b _ c.from_residual.ensures.1
    (rw c.in-Text.is (part_longer a b c.args.head.now (quoted c.in-Text.text.now)
    (rw c.as_bytes.ensures.value at c.in_err-write_bytes-in-Text.ensures)))

pub returns-in_ok-write_bytes-in-Text : goal.returns-in_ok-write_bytes-in-Text
returns-in_ok-write_bytes-in-Text g c =
    let contents = g.W.Write.contents in
    rw c.in-Text.is (writes_next (contents c.args.out.now) (contents c.write_bytes.new.writer)
    (contents c.write_text.new.out) c.args.head.now (quoted c.in-Text.text.now) c.write_text.result
    (rw c.as_bytes.ensures.value at c.in_ok-write_bytes-in-Text.ensures) c.write_text.ensures)
