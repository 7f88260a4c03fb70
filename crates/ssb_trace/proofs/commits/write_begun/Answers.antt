use Rattle.std.proofs.Common.{[], ◌∷◌, flat_map}
use Rattle.ssb_text.proofs.WrittenLaws.{writes_stopped, writes_next, part_longer}
use Rattle.ssb_trace.specs.TraceText.{action_text}
use Rattle.ssb_text.specs.TableText.{record_text}
use Rattle.std.specs.Prelude.{codes, decimal}
use Rattle.ssb_trace.proofs.commits.write_begun.Goals as goal

pub returns-in_err-write_pieces : goal.returns-in_err-write_pieces
returns-in_err-write_pieces g c =
    let contents = g.W.Write.contents in
    let a = contents c.args.writer.now in
    let b = contents c.write_pieces.new.writer in
    writes_stopped _ c.from_residual.result a b _ c.from_residual.ensures.1
    (part_longer a b (record_text (codes "commit") (decimal c.args.client ∷ []))
    (flat_map action_text c.args.actions.now) (rw c.from.ensures at c.in_err-write_pieces.ensures))

pub returns : goal.returns
returns g c =
    let contents = g.W.Write.contents in
    writes_next (contents c.args.writer.now) (contents c.write_pieces.new.writer) _
    (record_text (codes "commit") (decimal c.args.client ∷ [])) (flat_map action_text c.args.actions.now)
    c.write_actions.result (rw c.from.ensures at c.in_ok-write_pieces.ensures) (c.write_actions.ensures)
