use Rattle.ssb_formats.proofs.ShownLaws.{part_longer, shows_next, shows_stopped}
use Rattle.ssb_formats.specs.Formats.{answers_parted, opening}
use Rattle.ssb_formats.proofs.format.write_formatted.Goals as goal

pub returns-in_err-write_opening : goal.returns-in_err-write_opening
returns-in_err-write_opening g c =
    let contents = g.W.Write.contents in
    let a = contents c.args.writer.now in
    let b = contents c.write_opening.new.writer in
    record {
      text = shows_stopped _ c.from_residual.result a b _ c.from_residual.ensures.1
          (part_longer a b (opening c.args.format) (answers_parted c.args.format c.args.answers.now)
          c.in_err-write_opening.ensures);
    }

pub returns : goal.returns
returns g c =
    let contents = g.W.Write.contents in
    record {
      text = shows_next (contents c.args.writer.now) (contents c.write_opening.new.writer) _ (opening c.args.format)
          (answers_parted c.args.format c.args.answers.now) c.write_parted.result c.in_ok-write_opening.ensures
          c.write_parted.ensures;
    }
