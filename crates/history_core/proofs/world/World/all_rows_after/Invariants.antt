use Rattle.std.proofs.Common.{◌≡◌, take}
use Rattle.history_core.specs.World.{all_rows_after}
use Rattle.history_core.proofs.world.World.all_rows_after.Given as goal

abbrev pub invariant-loop-question : goal.invariant-loop-question
invariant-loop-question l =
    l.all.items ≡ all_rows_after l.self.base (take l.question-index l.list) (take l.at l.self.history)
