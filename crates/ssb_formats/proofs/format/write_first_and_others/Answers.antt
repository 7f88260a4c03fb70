use Rattle.std.proofs.Common.{flat_map}
use Rattle.ssb_formats.proofs.ShownLaws.{part_longer, shows_next, shows_stopped}
use Rattle.ssb_formats.specs.Formats.{next_shown, shown}
use Rattle.ssb_formats.proofs.format.write_first_and_others.Goals as goal

pub returns-in_err-write_shown : goal.returns-in_err-write_shown
returns-in_err-write_shown g c =
    let contents = g.W.Write.contents in
    let a = contents c.args.writer.now in
    let b = contents c.write_shown.new.writer in
    shows_stopped _ c.from_residual.result a b _ c.from_residual.ensures.1
    (part_longer a b (shown c.args.format c.args.first.now) (flat_map (next_shown c.args.format) c.args.others.now)
    c.in_err-write_shown.ensures)

pub returns : goal.returns
returns g c =
    let contents = g.W.Write.contents in
    shows_next (contents c.args.writer.now) (contents c.write_shown.new.writer) _
    (shown c.args.format c.args.first.now) (flat_map (next_shown c.args.format) c.args.others.now)
    c.write_others.result c.in_ok-write_shown.ensures c.write_others.ensures
