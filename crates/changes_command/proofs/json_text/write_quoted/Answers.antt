use Rattle.std.proofs.Common.{[], ◌∷◌, ◌++◌}
use Rattle.json.specs.Print.{escape}
use Rattle.ssb_text.proofs.WrittenLaws.{appends_part, part_longer, writes_next, writes_stopped}
use Rattle.changes_command.proofs.json_text.write_quoted.Goals as goal

pub returns-in_err-write_bytes : goal.returns-in_err-write_bytes
returns-in_err-write_bytes g c =
    let contents = g.W.Write.contents in
    let a = contents c.args.out.now in
    let b = contents c.write_bytes.new.writer in
    let text = c.args.text.now in
    writes_stopped _ c.from_residual.result a b _ c.from_residual.ensures.1
    (part_longer a b (34 ∷ []) (escape text ++ 34 ∷ []) c.in_err-write_bytes.ensures)

pub returns-in_err-write_escaped : goal.returns-in_err-write_escaped
returns-in_err-write_escaped g c =
    let contents = g.W.Write.contents in
    let a = contents c.args.out.now in
    let b = contents c.write_bytes.new.writer in
    let d = contents c.write_escaped.new.out in
    let text = c.args.text.now in
    writes_stopped _ c.from_residual-in_err-write_escaped.result a d _
    c.from_residual-in_err-write_escaped.ensures.1
    (appends_part a b d (34 ∷ []) (escape text ++ 34 ∷ []) c.in_ok-write_bytes.ensures
    (part_longer b d (escape text) (34 ∷ []) (rw c.as_bytes.ensures.value at c.in_err-write_escaped.ensures)))

pub returns : goal.returns
returns g c =
    let contents = g.W.Write.contents in
    let a = contents c.args.out.now in
    let b = contents c.write_bytes.new.writer in
    let d = contents c.write_escaped.new.out in
    let e = contents c.write_bytes-2.new.writer in
    let text = c.args.text.now in
    writes_next a b e (34 ∷ []) (escape text ++ 34 ∷ []) c.write_bytes-2.result c.in_ok-write_bytes.ensures
    (writes_next b d e (escape text) (34 ∷ []) c.write_bytes-2.result
    (rw c.as_bytes.ensures.value at c.in_ok-write_escaped.ensures) c.write_bytes-2.ensures)
