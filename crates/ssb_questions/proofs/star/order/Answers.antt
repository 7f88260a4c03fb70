use Rattle.std.proofs.Common.{◌≡◌, ℕ, ◌+◌, Bool, true, false, [], ◌∷◌, ◌++◌, ap, arith}
use Rattle.std.proofs.lemmas.List.FromFn.{map-range_with_len_more}
use Rattle.ssb_questions.specs.Star as spec
use Rattle.ssb_questions.specs.declared.plan.OrderKey.TheVariants.{Group, SumDescending}
use Rattle.ssb_questions.proofs.star.order.Goals as goal

one_more : (by_sum : Bool) (n : ℕ) → spec.order_of by_sum (n + 1) ≡ spec.order_of by_sum n ++ Group n ∷ []
one_more true n = ap (λ keys. SumDescending ∷ keys) (map-range_with_len_more Group 0 n n (omega arith))
one_more false n = map-range_with_len_more Group 0 n n (omega arith)

pub loop-place-preserved : goal.loop-place-preserved
loop-place-preserved c =
    let more = one_more c.args.by_sum c.loop-place.place in
    cc (more, c.in_ok-push-2.ensures.items, c.loop-place.invariant)
