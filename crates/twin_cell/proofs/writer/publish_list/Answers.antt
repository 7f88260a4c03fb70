use Rattle.std.proofs.Common.{◌∙◌, ap, fold}
use Rattle.row_store.specs.State.{state_after}
use Rattle.twin_cell.proofs.KeptLaws.{publishes}
use Rattle.twin_cell.proofs.writer.publish_list.Goals as goal

pub publish_as-requires : goal.publish_as-requires
publish_as-requires g c next is =
    let state = g.R.Replica.state in
    let now = c.args.copies.desk.shown.value in
    publishes (λ side. state side.replica) _ _ now next g.K.Pending.list c.requires.stands
    (is ∙ ap (fold state_after (state now.replica)) c.requires.pending)
