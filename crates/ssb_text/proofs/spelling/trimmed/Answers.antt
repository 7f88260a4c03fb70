use Rattle.std.proofs.Common.{◌≡◌, ◌∙◌, arith, sym}
use Rattle.std.proofs.lemmas.Bool.{ne_eqb}
use Rattle.ssb_text.proofs.TrimmingLaws.{without_spaces-step, without_spaces-stops, nothing_left}
use Rattle.ssb_text.proofs.spelling.trimmed.Goals as goal
use Rattle.ssb_text.proofs.spelling.trimmed.Goals.{then-loop-end-test+else-field-end-eq32, else-loop-end-test}

pub loop-end-preserved : goal.loop-end-preserved
loop-end-preserved c =
    let inv = c.loop-end.invariant in
    record {
      within = omega arith;
      same = without_spaces-step c.args.field.now c.loop-end.end c.loop-end-test.true inv.within
          c.if-field-end-eq32.true ∙ inv.same;
    }

pub returns : goal.returns
returns c =
    let inv = c.loop-end.invariant in
    elim c.loop-end-test.branch [
      | then-loop-end-test+else-field-end-eq32 w ↦ sym
          (without_spaces-stops c.args.field.now c.loop-end.end w.loop-end-test.true inv.within
          (ne_eqb _ _ w.if-field-end-eq32.false)) ∙ inv.same
      | else-loop-end-test w ↦ let none : c.loop-end.end ≡ 0 = omega (arith, w.loop-end-test.false) in let same =
          rw none at inv.same in rw none (nothing_left c.args.field.now same)
    ]
