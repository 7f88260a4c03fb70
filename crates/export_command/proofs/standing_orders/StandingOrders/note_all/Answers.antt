use Rattle.std.proofs.Common.{arith, rules}
use Rattle.export_command.proofs.FollowLaws.{noted_more}
use Rattle.export_command.proofs.standing_orders.StandingOrders.note_all.Goals as goal

pub loop-place-preserved : goal.loop-place-preserved
loop-place-preserved c =
    let i = c.loop-place.place in
    let so_far = c.loop-place.invariant.0 in
    let one = c.in_ok-note.ensures.count in (
      omega (arith, so_far, one),
      λ base lines none left.
          noted_more base lines c.args.refresh.now.value i c.loop-place.self c.note.new.self (search rules)
          c.in_ok-note.ensures.left (c.loop-place.invariant.1 base lines none left),
    )
