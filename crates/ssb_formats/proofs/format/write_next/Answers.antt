use Rattle.ssb_formats.proofs.ShownLaws.{part_longer, shows_next, shows_stopped}
use Rattle.ssb_formats.specs.Formats.{parting, shown}
use Rattle.ssb_formats.proofs.format.write_next.Goals as goal

pub returns-in_err-write_parting : goal.returns-in_err-write_parting
returns-in_err-write_parting g c =
    let contents = g.W.Write.contents in
    let a = contents c.args.writer.now in
    let b = contents c.write_parting.new.writer in
    shows_stopped _ c.from_residual.result a b _ c.from_residual.ensures.1
    (part_longer a b (parting c.args.format) (shown c.args.format c.args.answer.now) c.in_err-write_parting.ensures)

pub returns : goal.returns
returns g c =
    let contents = g.W.Write.contents in
    shows_next (contents c.args.writer.now) (contents c.write_parting.new.writer) _ (parting c.args.format)
    (shown c.args.format c.args.answer.now) c.write_shown.result c.in_ok-write_parting.ensures c.write_shown.ensures
