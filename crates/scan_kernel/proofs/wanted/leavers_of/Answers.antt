use Rattle.std.proofs.Common.{◌-◌, ◌∙◌, ap, arith, get_or}
use Rattle.std.specs.Int.{bit_not, w16}
use Rattle.std.proofs.lemmas.List.{length-set}
use Rattle.std.proofs.lemmas.Nat.Bits.{bit_at_not}
use Rattle.scan_kernel.proofs.WantedLaws.{takers_more}
use Rattle.scan_kernel.proofs.wanted.leavers_of.Goals as goal

pub loop-row-preserved : goal.loop-row-preserved
loop-row-preserved c = record {
  all = length-set _ _ _ ∙ c.loop-row.invariant.all;
  in_all = takers_more (λ row. bit_not w16 (get_or c.args.masks.now row 0)) c.args.codes.now c.loop-row.leavers
      c.loop-row.row c.coarse_code.result c.loop-row.invariant.all c.coarse_code.ensures.small
      c.coarse_code.ensures.code c.loop-row.invariant.in_all;
}

pub returns : goal.returns
returns c = λ row k within few lacks.
    let mask = get_or c.args.masks.now row 0 in
    c.loop-row.invariant.in_all row k (omega (arith, within, c.loop-row-test.false))
    (bit_at_not w16 mask k (c.type_inv.masks row).fits few ∙ ap (λ bit. 1 - bit) lacks)
