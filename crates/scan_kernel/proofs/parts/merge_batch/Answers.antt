use Rattle.std.proofs.Common.{◌≡◌, ℕ, ◌<◌, ◌≤◌, length, get_or, arith, subst, sym, ◌∙◌}
use Rattle.std.specs.Prelude.{vec_len}
use Rattle.std.proofs.lemmas.List.{get_or-set_other, length-set}
use Rattle.scan_kernel.specs.declared.totals.Totals.{Totals}
use Rattle.scan_kernel.specs.Parts.{MergesTotals}
use Rattle.scan_kernel.proofs.WrittenLaws.{written_more}
use Rattle.scan_kernel.proofs.parts.merge_batch.Goals as goal

pub merge-requires : goal.merge-requires
merge-requires c =
    let n = c.loop-number.number in
    let mine = c.index-into-number.result in
    let theirs = c.index-from-number.result in
    let own : n ≤ n = omega arith in
    let in_old : n < length c.args.into.now = omega (arith, c.loop-number.invariant.all) in
    let P : Totals → Type 0 = λ t. vec_len t.counts ≡ vec_len (get_or c.args.into.now n mine).counts in
    let R : Totals → Type 0 = λ t. vec_len theirs.counts ≡ vec_len t.counts in
    subst R (sym (c.loop-number.invariant.left n mine own))
    (subst P (sym c.index-from-number.is) (c.requires.sizes n theirs mine in_old))

pub loop-number-preserved : goal.loop-number-preserved
loop-number-preserved c =
    let n = c.loop-number.number in
    let mine = c.index-into-number.result in
    let theirs = c.index-from-number.result in
    let merges = λ (k : ℕ) (r old new : Totals). MergesTotals old r new in
    let P : Totals → Type 0 = λ r. merges n r (get_or c.loop-number.into n mine) c.merge.new.into in
    let here = subst P c.index-from-number.is c.merge.ensures.merged in
    let in_mid : n < length c.loop-number.into = omega arith in
    let in_old : n < length c.args.into.now = omega (arith, c.loop-number.invariant.all) in
    let in_from : n < length c.args.from.now = omega (arith, in_old, c.requires.all) in
    record {
      all = length-set c.loop-number.into n c.merge.new.into ∙ c.loop-number.invariant.all;
      done = written_more merges c.args.from.now c.args.into.now c.loop-number.into n theirs mine c.merge.new.into
          in_from in_mid in_old c.loop-number.invariant.done c.loop-number.invariant.left here;
      left = λ k t h. get_or-set_other c.loop-number.into n k c.merge.new.into t (λ e. absurd (omega (arith, h, e)))
          ∙ c.loop-number.invariant.left k t (omega (arith, h));
    }

pub returns-clause-merged : goal.returns-clause-merged
returns-clause-merged c = λ k r t h. c.loop-number.invariant.done k r t (omega (arith, h, c.loop-number.invariant.all))
