use Rattle.std.proofs.Common.{◌≡◌, sym, ◌∙◌}
use Rattle.ssb_schema.specs.Orders.{order_key}
use Rattle.row_store.proofs.CountedLaws.{lines_gone}
use Rattle.changes_command.proofs.HeldLaws.{held_added, held_replaced, held_beside_added, held_beside_replaced}
use Rattle.changes_command.proofs.HeldLaws.{held_beside_withdrawn}
use Rattle.changes_command.proofs.writing.held_after.Goals as goal

pub returns-then-key : goal.returns-then-key
returns-then-key c = λ base before lines none was.
    rw c.in-Add.is (held_added base c.args.key lines c.in-Add.order c.lines-lines.ensures.order
    (sym c.key.ensures ∙ c.if-key.true) (rw c.in-Add.is at none) ∙ sym c.lines-lines.ensures.lines)

pub returns-else-key : goal.returns-else-key
returns-else-key c = λ base before lines none was.
    let apart : order_key c.in-Add.order ≡ c.args.key → ⊥ = λ same. c.if-key.false (c.key.ensures ∙ same) in
    rw c.in-Add.is (held_beside_added c.args.key before c.args.held lines c.in-Add.order c.lines-lines.ensures.order
    apart was)

pub returns-then-key-2 : goal.returns-then-key-2
returns-then-key-2 c = λ base before lines none was.
    held_replaced c.args.key lines c.args.action.now c.in-Amend.order c.in-Amend.is
    c.lines-lines-in-Amend.ensures.order
    (sym c.key-in-Amend.ensures ∙ c.if-key-2.true) ∙ sym c.lines-lines-in-Amend.ensures.lines

pub returns-else-key-2 : goal.returns-else-key-2
returns-else-key-2 c = λ base before lines none was.
    let apart : order_key c.in-Amend.order ≡ c.args.key → ⊥ =
    λ same. c.if-key-2.false (c.key-in-Amend.ensures ∙ same) in
    held_beside_replaced c.args.key before c.args.held lines c.args.action.now c.in-Amend.order c.in-Amend.is
    c.lines-lines-in-Amend.ensures.order apart was

pub returns-then-gone-key : goal.returns-then-gone-key
returns-then-gone-key c = λ base before lines none was.
    rw c.in-Withdraw.is (lines_gone c.args.key c.in-Withdraw.gone lines c.if-gone-key.true)

pub returns-else-gone-key : goal.returns-else-gone-key
returns-else-gone-key c = λ base before lines none was.
    rw c.in-Withdraw.is (held_beside_withdrawn c.args.key c.in-Withdraw.gone before c.args.held lines
    c.if-gone-key.false was)
