use Rattle.std.proofs.Common.{rules}
use Rattle.ssb_text.proofs.WrittenLaws.{writes_stopped, part_item}
use Rattle.ssb_trace.specs.TraceText.{line_text}
use Rattle.ssb_trace.proofs.commits.write_lines.Goals as goal

pub returns-in_err-write_line : goal.returns-in_err-write_line
returns-in_err-write_line g c =
    let contents = g.W.Write.contents in
    writes_stopped _ c.from_residual.result (contents c.args.writer.now) (contents c.write_line.new.writer) _
    c.from_residual.ensures.1
    (part_item line_text c.args.lines.now c.loop-line.line-index c.line-item.result c.line-item.result
    (contents c.args.writer.now) (contents c.loop-line.writer) (contents c.write_line.new.writer)
    (search rules) c.line-item.is c.loop-line.invariant c.in_err-write_line.ensures)
