use Rattle.std.proofs.Common.{◌≡◌, ◌+◌, suc, ap, ◌∙◌, arith}
use Rattle.atomic_table.specs.Table.{turned}
use Rattle.history.specs.Seats.{turns}
use Rattle.history.proofs.HandLaws.{turns_more}
use Rattle.history.proofs.steps.turn_by.Goals as goal

pub loop-preserved : goal.loop-preserved
loop-preserved g c = let inv = c.loop.invariant in let did = c.turn.ensures in let was = c.args.seat.now.me in let k =
    c.loop.counter in let one : suc k ≡ k + 1 = omega arith in (
      did.0 ∙ inv.0,
      did.1 ∙ inv.1,
      did.2 ∙ (ap (λ m. (m.0, turned m.1)) inv.2
          ∙ ap (λ xs. (was.0, xs)) (turns_more k was.1 ∙ ap (λ n. turns n was.1) one)),
    )
