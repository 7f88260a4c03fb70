use Rattle.std.proofs.Common.{◌≡◌, ℕ, ◌<◌, Bool, length, get_or, arith, subst, ap, ◌∙◌}
use Rattle.std.specs.Prelude.{nat_eq}
use Rattle.std.specs.Int.{bit_at}
use Rattle.std.proofs.lemmas.List.{get_or-set_other, length-set}
use Rattle.scan_kernel.specs.declared.totals.Totals.{Totals}
use Rattle.scan_kernel.proofs.WrittenLaws.{written_more}
use Rattle.shared_scan.specs.declared.ready.Ready.{Ready}
use Rattle.shared_scan.specs.Standing.{takes_line, ShiftsWhere}
use Rattle.shared_scan.proofs.shifting.shift_line.Goals as goal

pub loop-number-preserved : goal.loop-number-preserved
loop-number-preserved c =
    let n = c.loop-number.number in
    let base = c.args.index.now in
    let masks = c.args.masks.now in
    let line = c.args.line.now in
    let item = c.index-all-number.result in
    let mine = c.index-totals-number.result in
    let new = c.shift_where.new.totals in
    let shifts = λ (k : ℕ) (r : Ready) (old now : Totals). ShiftsWhere
    (takes_line masks k line) base r line c.args.comes
    old now in
    let B : Bool → Type 0 = λ b. ShiftsWhere b base item line c.args.comes (get_or c.loop-number.totals n mine) new in
    let taken : nat_eq (bit_at c.line_mask-mask.result n) 1 ≡ takes_line masks n line =
    ap (λ (m : ℕ). nat_eq (bit_at m n) 1) c.line_mask-mask.ensures in
    let own = subst B (c.has_bit-is_taken.ensures ∙ taken) c.shift_where.ensures in
    let R : Ready → Type 0 = λ r. shifts n r (get_or c.loop-number.totals n mine) new in
    let here = subst R c.index-all-number.is own in
    let in_mid : n < length c.loop-number.totals = omega
    (arith, c.loop-number.invariant.len, c.requires.one_each, c.loop-number-test.true) in
    let in_old : n < length c.args.totals.now = omega (arith, c.requires.one_each, c.loop-number-test.true) in
    record {
      len = length-set c.loop-number.totals n new ∙ c.loop-number.invariant.len;
      done = written_more shifts c.args.all.now c.args.totals.now c.loop-number.totals n item mine new
          c.loop-number-test.true in_mid in_old c.loop-number.invariant.done c.loop-number.invariant.left here;
      left = λ k t h. get_or-set_other c.loop-number.totals n k new t (λ e. absurd (omega (arith, h, e)))
          ∙ c.loop-number.invariant.left k t (omega (arith, h));
    }

pub returns-clause-shifted : goal.returns-clause-shifted
returns-clause-shifted c = λ k r t below. c.loop-number.invariant.done k r t (omega (arith, below))
