use Rattle.std.proofs.Common.{◌≡◌, ℕ, ◌+◌, ◌<◌, List, [], ◌∷◌, ◌++◌, length, get_or, ap, sym, ◌∙◌, subst}
use Rattle.std.proofs.lemmas.List.{length-append}
use Rattle.scan_kernel.specs.declared.columns.Grouping.{Grouping}
use Rattle.scan_kernel.specs.declared.totals.Totals.{Totals}
use Rattle.scan_kernel.specs.Totals.{AreZeros}
use Rattle.scan_kernel.proofs.BatchLaws.{zeros_pushed}
use Rattle.scan_kernel.proofs.range.no_batch_totals.Goals as goal

pub loop-grouping-preserved : goal.loop-grouping-preserved
loop-grouping-preserved c =
    let n = c.loop-grouping.grouping-index in
    let groupings = c.args.groupings.now in
    let one : Totals = c.in_ok-no_totals.field-0 in
    let items : c.push.new.self.items ≡ c.loop-grouping.all.items ++ one ∷ [] = c.in_ok-push.ensures.items in
    let P : List Totals → Type 0 = λ xs. (k : ℕ) (q : Grouping) (t : Totals) → k < n + 1
    → AreZeros (get_or groupings k q).size (get_or xs k t) in
    record {
      all = ap length items ∙ length-append c.loop-grouping.all.items (one ∷ [])
          ∙ ap (λ (m : ℕ). m + 1) c.loop-grouping.invariant.all;
      each = subst P (sym items) (zeros_pushed groupings c.loop-grouping.all.items n c.grouping-item.result one
          c.loop-grouping.invariant.all c.grouping-item.is c.loop-grouping-test.true c.in_ok-no_totals.ensures
          c.loop-grouping.invariant.each);
    }
