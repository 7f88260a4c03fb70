use Rattle.std.proofs.Common.{◌∙◌, get_or}
use Rattle.std.proofs.lemmas.List.{length-set}
use Rattle.scan_kernel.proofs.WantedLaws.{takers_more}
use Rattle.scan_kernel.proofs.wanted.takers_of.Goals as goal

pub loop-row-preserved : goal.loop-row-preserved
loop-row-preserved c = record {
  all = length-set _ _ _ ∙ c.loop-row.invariant.all;
  in_all = takers_more (λ row. get_or c.args.masks.now row 0) c.args.codes.now c.loop-row.takers c.loop-row.row
      c.coarse_code.result c.loop-row.invariant.all c.coarse_code.ensures.small c.coarse_code.ensures.code
      c.loop-row.invariant.in_all;
}
