use Rattle.std.proofs.Common.{◌≡◌}
use Rattle.ssb_questions.specs.Star as spec
use Rattle.ssb_questions.proofs.star.order.Given as goal

abbrev pub invariant-loop-place : goal.invariant-loop-place
invariant-loop-place l = l.order.items ≡ spec.order_of l.by_sum l.place
