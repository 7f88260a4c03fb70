use Rattle.std.proofs.Common.{ℕ, ◌∙◌, ◌++◌, ◌∷◌, [], arith, sym}
use Rattle.std.proofs.lemmas.List.FromFn.{map-range_with_len_more}
use Rattle.dimension_index.proofs.classes.numbered.Goals as goal

pub loop-place-preserved : goal.loop-place-preserved
loop-place-preserved c =
    let place = c.loop-place.place in
    c.in_ok-push.ensures.items
    ∙ (λ i. c.loop-place.invariant i ++ place ∷ [])
    ∙ sym (map-range_with_len_more (λ (n : ℕ). n) 0 place place (omega arith))
