use Rattle.std.proofs.Common.{[], ◌∷◌, codes}
use Rattle.std.specs.List.{concat}
use Rattle.ssb_report.specs.OverviewText.{counted}
use Rattle.ssb_text.proofs.WrittenLaws.{writes_stopped, writes_next, part_longer}
use Rattle.ssb_report.proofs.overview.write_head.Goals as goal

pub returns-in_err-write_pieces : goal.returns-in_err-write_pieces
returns-in_err-write_pieces g c =
    let contents = g.W.Write.contents in
    let a = contents c.args.writer.now in
    let b = contents c.write_pieces.new.writer in
    writes_stopped _ c.from_residual.result a b _ c.from_residual.ensures.1
    (part_longer a b (concat (c.args.name.now ∷ codes " rows " ∷ [])) (counted c.args.shown c.args.count)
    c.in_err-write_pieces.ensures)

pub returns : goal.returns
returns g c =
    let contents = g.W.Write.contents in
    writes_next (contents c.args.writer.now) (contents c.write_pieces.new.writer) _
    (concat (c.args.name.now ∷ codes " rows " ∷ [])) (counted c.args.shown c.args.count) c.write_counted.result
    c.in_ok-write_pieces.ensures c.write_counted.ensures
