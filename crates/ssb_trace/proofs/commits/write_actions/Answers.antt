use Rattle.std.proofs.Common.{rules}
use Rattle.ssb_text.proofs.WrittenLaws.{writes_stopped, part_item}
use Rattle.ssb_trace.specs.TraceText.{action_text}
use Rattle.ssb_trace.proofs.commits.write_actions.Goals as goal

pub returns-in_err-write_action : goal.returns-in_err-write_action
returns-in_err-write_action g c =
    let contents = g.W.Write.contents in
    writes_stopped _ c.from_residual.result (contents c.args.writer.now) (contents c.write_action.new.writer) _
    c.from_residual.ensures.1
    (part_item action_text c.args.actions.now c.loop-action.action-index c.action-item.result c.action-item.result
    (contents c.args.writer.now) (contents c.loop-action.writer) (contents c.write_action.new.writer)
    (search rules) c.action-item.is c.loop-action.invariant c.in_err-write_action.ensures)
