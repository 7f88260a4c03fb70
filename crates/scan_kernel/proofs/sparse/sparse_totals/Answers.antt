use Rattle.std.proofs.Common.{◌≡◌, ℕ, ◌<◌, ◌%◌, ◌^◌, List, true, false, ap, sym, ◌∙◌, subst, arith}
use Rattle.std.specs.List.{range_with_len}
use Rattle.std.proofs.Math.Nat.{mod-eq_of_lt}
use Rattle.scan_kernel.specs.Places.{has_bit, group_at}
use Rattle.scan_kernel.specs.Sparse.{as_group_columns, AreSparseTotals}
use Rattle.scan_kernel.specs.Totals.{taken}
use Rattle.scan_kernel.proofs.SparseLaws.{group_is, taken_more, taken_same, line_added}
use Rattle.scan_kernel.proofs.sparse.sparse_totals.Goals as goal
use Rattle.scan_kernel.proofs.sparse.sparse_totals.Goals.{then-takes+in_ok-add_line, else-takes}

pub loop-place-preserved : goal.loop-place-preserved
loop-place-preserved c =
    let lines = c.args.lines.now in
    let masks = c.args.masks.now in
    let k = c.args.number in
    let place = c.loop-place.place in
    let columns = as_group_columns c.args.grouping.columns.now in
    let old = c.loop-place.totals in
    let new = c.if-takes.totals in
    elim c.if-takes.branch [
      | then-takes+in_ok-add_line w ↦
          let bit : has_bit lines masks k place ≡ true = sym c.takes.ensures ∙ w.if-takes.true in
          let room : group_at columns place < c.args.size = c.requires.groups place (omega arith) bit in
          let group : w.group_of-group.result ≡ group_at columns place =
          w.group_of-group.ensures ∙ ap (λ (n : ℕ). n % 2 ^ 128) (group_is place c.args.grouping.columns.now)
          ∙ mod-eq_of_lt (omega (arith, room, c.ranges.size.fits)) in
          let P : List ℕ → Type 0 = λ ps. AreSparseTotals lines c.args.grouping.measure columns ps c.args.size new in
          subst P (sym (taken_more lines masks k place bit))
          (rw w.totals-is (line_added lines c.args.grouping.measure columns c.args.size old w.add_line.new.totals
          (taken lines masks k (range_with_len 0 place)) place w.group_of-group.result w.gain_of-gain.result
          w.loss_of-loss.result
          c.loop-place.invariant w.in_ok-add_line.ensures group w.gain_of-gain.ensures w.loss_of-loss.ensures room))
      | else-takes w ↦
          let bit : has_bit lines masks k place ≡ false = sym c.takes.ensures ∙ w.if-takes.false in
          let P : List ℕ → Type 0 = λ ps. AreSparseTotals lines c.args.grouping.measure columns ps c.args.size new in
          subst P (sym (taken_same lines masks k place bit)) (rw w.totals-is c.loop-place.invariant)
    ]
