use Rattle.std.proofs.Common.{ℕ, ◌≡◌, List, [], Some, sym, subst, ◌∙◌, eqb-true, arith}
use Rattle.std.proofs.lemmas.List.{nil_from_length}
use Rattle.std.specs.Prelude.{vec_len}
use Rattle.shared_scan.specs.Tests.{CoverTests}
use Rattle.shared_scan.specs.Masking.{AreRowMasks, TellDimension}
use Rattle.shared_scan.proofs.RowMaskLaws.{untested, row_masks_tell}
use Rattle.shared_scan.proofs.masking.dimension_masks.Goals as goal

pub returns-then-is_empty : goal.returns-then-is_empty
returns-then-is_empty c =
    let places = c.in_ok-places.places in
    let zero : vec_len places ≡ 0 = eqb-true (vec_len places) 0 (sym c.is_empty.ensures ∙ c.if-is_empty.true) in
    let none : places.items ≡ [] = nil_from_length places.items (omega (arith, zero, places.ok)) in
    untested c.args.index.now c.args.table c.args.plans.now c.requires.few
    (subst (CoverTests c.args.table c.args.plans.now) none c.in_ok-places.ensures)

pub returns : goal.returns
returns c =
    let base = c.args.index.now in
    let t = c.args.table in
    let plans = c.args.plans.now in
    let places = c.in_ok-places.places.items in
    let masks = c.in_ok-masks.masks.items in
    let are : AreRowMasks base t plans places masks = rw c.deref.ensures.value at c.in_ok-masks.ensures in
    subst (λ (ms : List ℕ). TellDimension base t plans (Some ms)) (sym c.from_vec.ensures)
    (row_masks_tell base t plans places masks c.in_ok-places.ensures are)
