use Rattle.std.proofs.Common.{◌≡◌, ◌≤◌, length, arith, ap, rules, subst}
use Rattle.std.specs.List.{AllByRecursion}
use Rattle.export_command.specs.After.{AddsOrder}
use Rattle.export_command.proofs.FollowLaws.{followed, notes_swept}
use Rattle.export_command.proofs.standing_orders.StandingOrders.follow.Goals as goal

pub loop-commit-preserved : goal.loop-commit-preserved
loop-commit-preserved c =
    let commits = c.args.commits.now in
    let commit = c.commit-item.result in
    let old = c.loop-commit.self in
    let new = c.sweep.new.self in
    let are : c.commit.inside.refresh.value ≡ commit.actions = cc in
    let looked : c.actions.result.now ≡ commit.actions = cc in
    let here : c.deref.result.now ≡ commit.actions = cc in
    let few : length commit.actions ≤ 64 = subst (λ l. length l ≤ 64) here c.actions.ensures.few.1 in
    let so_far = c.loop-commit.invariant.0 in
    let noted = c.in_ok-note_all.ensures.count in
    let swept = c.sweep.ensures.count in
    let same = ap length are in (
      omega (arith, so_far, noted, swept, few, same),
      λ base log legal follows.
          followed base log commits c.loop-commit.commit-index commit old new (search rules) c.commit-item.is legal
          (subst (AllByRecursion AddsOrder) looked c.all_add_orders.ensures) few (omega (arith, noted, swept, same))
          (notes_swept c.commit.inside.refresh.value commit.actions old c.note_all.new.self new are
          c.in_ok-note_all.ensures.left c.sweep.ensures.left) (c.loop-commit.invariant.1 base log legal follows),
    )
