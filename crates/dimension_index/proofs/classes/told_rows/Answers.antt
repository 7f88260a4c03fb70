use Rattle.std.proofs.Common.{◌∙◌, ◌++◌, ◌∷◌, [], arith, sym}
use Rattle.std.proofs.lemmas.List.FromFn.{map-range_with_len_more}
use Rattle.dimension_index.specs.Told.{told_at}
use Rattle.dimension_index.proofs.classes.told_rows.Goals as goal

pub loop-row-preserved : goal.loop-row-preserved
loop-row-preserved c =
    let told = told_at c.args.first.now c.args.second.now c.args.third.now c.args.fourth.now in
    let row = c.loop-row.row in
    c.in_ok-push.ensures.items
    ∙ (λ i. c.loop-row.invariant i ++ c.row_codes.ensures i ∷ [])
    ∙ sym (map-range_with_len_more told 0 row row (omega arith))
