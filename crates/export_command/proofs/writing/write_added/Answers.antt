use Rattle.std.proofs.Common.{◌≡◌, ◌+◌, nat_eq, take, get_or, rules, sym, ap, ◌∙◌, subst}
use Rattle.std.specs.HashMap.{get}
use Rattle.ssb_text.specs.Written.{StopsShort}
use Rattle.export_command.specs.Standing.{left_of_added, order_lines}
use Rattle.export_command.proofs.StandingOrderLaws.{added_both}
use Rattle.export_command.proofs.StepLaws.{order_goes, order_stands, step_left_out, step_stopped, step_written}
use Rattle.export_command.proofs.WritingLaws.{HasWritten, lines_text, writes_part}
use Rattle.export_command.proofs.writing.write_added.Goals.{then-has_added+in_ok-write_rows, else-has_added}
use Rattle.export_command.proofs.writing.write_added.Goals as goal

pub returns-in_err-write_rows : goal.returns-in_err-write_rows
returns-in_err-write_rows g c =
    let contents = g.W.Write.contents in
    let old = contents c.args.out.now in
    let mid = contents c.loop-order.out in
    let new = contents c.write_rows.new.writer in
    let numbers = get nat_eq c.args.orders.now.numbers in
    let orders = c.args.orders.now.added.items in
    let order = c.order-item.result in
    let is : order ≡ get_or orders c.loop-order.order-index order =
    subst (λ xs. order ≡ get_or xs c.loop-order.order-index order) c.added-order-items.ensures c.order-item.is in
    writes_part _ c.from_residual.result old new (left_of_added numbers orders) c.from_residual.ensures.1
    (step_stopped (left_of_added numbers) (added_both numbers) orders c.loop-order.order-index order (search rules)
    is old mid new (order_lines order)
    (order_stands numbers order (sym c.has_added.ensures ∙ c.if-has_added.true)) c.loop-order.invariant
    (subst (λ lines. StopsShort mid new (lines_text lines)) c.lines.ensures c.in_err-write_rows.ensures.text))

pub loop-order-preserved : goal.loop-order-preserved
loop-order-preserved g c =
    let contents = g.W.Write.contents in
    let old = contents c.args.out.now in
    let mid = contents c.loop-order.out in
    let numbers = get nat_eq c.args.orders.now.numbers in
    let orders = c.args.orders.now.added.items in
    let i = c.loop-order.order-index in
    let order = c.order-item.result in
    let is : order ≡ get_or orders c.loop-order.order-index order =
    subst (λ xs. order ≡ get_or xs c.loop-order.order-index order) c.added-order-items.ensures c.order-item.is in
    elim c.if-has_added.branch [
      | then-has_added+in_ok-write_rows w ↦
          let new = contents w.write_rows.new.writer in
          subst (λ now. HasWritten old now (left_of_added numbers (take (i + 1) orders))) (sym (ap contents w.out-is))
          (step_written (left_of_added numbers) (added_both numbers) orders i order (search rules) is old
          mid new (order_lines order) (order_stands numbers order (sym c.has_added.ensures ∙ w.if-has_added.true))
          c.loop-order.invariant
          (subst (HasWritten mid new) w.lines.ensures
          (record { text = w.in_ok-write_rows.ensures.text; rows = w.in_ok-write_rows.ensures.rows })))
      | else-has_added w ↦
          subst (λ now. HasWritten old now (left_of_added numbers (take (i + 1) orders))) (sym (ap contents w.out-is))
          (step_left_out (left_of_added numbers) (added_both numbers) orders i order (search rules) is old
          mid (order_goes numbers order (sym c.has_added.ensures ∙ w.if-has_added.false)) c.loop-order.invariant)
    ]
