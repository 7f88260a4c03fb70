use Rattle.std.proofs.Common.{length}
use Rattle.ssb_report.specs.OverviewText.{below_text, head_text}
use Rattle.ssb_text.proofs.WrittenLaws.{writes_stopped, writes_next, part_longer}
use Rattle.ssb_report.proofs.overview.write_counted_rows.Goals as goal

pub returns-in_err-write_head : goal.returns-in_err-write_head
returns-in_err-write_head g c =
    let contents = g.W.Write.contents in
    let a = contents c.args.writer.now in
    let b = contents c.write_head.new.writer in
    writes_stopped _ c.from_residual.result a b _ c.from_residual.ensures.1
    (part_longer a b (head_text c.args.name.now (length c.args.rows.now) c.args.count) (below_text c.args.rows.now)
    c.in_err-write_head.ensures)

pub returns : goal.returns
returns g c =
    let contents = g.W.Write.contents in
    writes_next (contents c.args.writer.now) (contents c.write_head.new.writer) _
    (head_text c.args.name.now (length c.args.rows.now) c.args.count) (below_text c.args.rows.now)
    c.write_below.result c.in_ok-write_head.ensures c.write_below.ensures
