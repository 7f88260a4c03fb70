use Rattle.std.proofs.Common.{arith, ap, ◌∙◌, ℕ, Bool, true, List, map, replicate, take}
use Rattle.std.proofs.lemmas.List.{with_items_is}
use Rattle.ssb_questions.specs.declared.value.Value.{Value}
use Rattle.ssb_questions.specs.Cond.{holds}
use Rattle.dimension_index.specs.Bitmaps.{bits_of, narrowed}
use Rattle.dimension_index.proofs.BitLaws.{bits_none, bits_more}
use Rattle.dimension_index.proofs.index.DimIndex.bitmap.Goals as goal

pub loop-test-init : goal.loop-test-init
loop-test-init c =
    c.in_ok-bits.ensures.items_if_clones_equal (λ y same. same)
    ∙ ap (λ (n : ℕ). replicate n true) c.positions.ensures
    ∙ bits_none c.args.self.now c.args.table

pub loop-test-preserved : goal.loop-test-preserved
loop-test-preserved c =
    let test = c.test-item.result in
    let holds_of : List Value → List Bool = map (holds test.cond) in
    with_items_is c.loop-test.bits c.narrow.new.rows (omega (arith, c.narrow.auto.rows, c.as_mut_slice.ensures.len))
    ∙ c.in_ok-narrow.ensures
    ∙ ap (λ (l : List Bool). narrowed l (holds_of c.column-column.result.now))
    (c.as_mut_slice.ensures.value ∙ c.loop-test.invariant)
    ∙ ap (λ (l : List Value). narrowed (bits_of c.args.self.now c.args.table
    (take c.loop-test.test-index c.args.tests.now)) (holds_of l)) c.column-column.ensures
    ∙ bits_more c.args.self.now c.args.table c.args.tests.now c.loop-test.test-index test c.loop-test-test.true
    c.test-item.is
