use Rattle.std.proofs.Common.{◌∙◌, ◌≡◌, length, Bool, Some, ap, sym, subst, arith}
use Rattle.std.specs.Prelude.{slice_get}
use Rattle.std.proofs.lemmas.Option.{slice_get-get_or}
use Rattle.ssb_questions.specs.declared.plan.Plan.{Plan}
use Rattle.shared_scan.proofs.MaskingLaws.{IsMaskUpTo, mask_ends, mask_sets, mask_stays}
use Rattle.shared_scan.proofs.masking.mask_of.Goals as goal
use Rattle.shared_scan.proofs.masking.mask_of.Goals.{then-is_taken, else-is_taken}

pub loop-number-preserved : goal.loop-number-preserved
loop-number-preserved g c =
    let plan = c.index-plans-number.result in
    let at : slice_get c.args.plans.now c.loop-number.number ≡ Some plan =
    slice_get-get_or c.args.plans.now c.loop-number.number plan c.loop-number-test.true
    ∙ ap Some (sym c.index-plans-number.is) in
    let is = c.is_taken.ensures in
    elim c.if-is_taken.branch [
      | then-is_taken w ↦ rw w.mask-is (mask_sets _ c.args.plans.now c.loop-number.number c.loop-number.mask plan at
          c.loop-number.invariant (omega (arith, c.requires.few, c.loop-number-test.true))
          (sym is ∙ w.if-is_taken.true))
      | else-is_taken w ↦ rw w.mask-is (mask_stays _ c.args.plans.now c.loop-number.number c.loop-number.mask plan at
          c.loop-number.invariant (sym is ∙ w.if-is_taken.false))
    ]

pub returns : goal.returns
returns g c =
    let end : c.loop-number.number ≡ length c.args.plans.now =
    omega (arith, c.loop-number-test.false, c.loop-number.auto) in
    let passes : Plan → Bool = λ plan. g.T.Tested.takes plan c.args.item.now in
    mask_ends passes c.args.plans.now c.loop-number.mask
    (subst (λ n. IsMaskUpTo passes c.args.plans.now n c.loop-number.mask) end c.loop-number.invariant)
