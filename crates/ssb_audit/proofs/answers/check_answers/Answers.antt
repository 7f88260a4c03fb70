use Rattle.std.proofs.Common.{inr, length, ap, sym, subst, ◌∙◌}
use Rattle.std.specs.Prelude.{Some}
use Rattle.ssb_audit.specs.InOrder.{AreInOrder}
use Rattle.ssb_audit.specs.declared.fault.AuditFault.TheVariants.{WrongRows}
use Rattle.ssb_audit.proofs.AnswerLaws.{within_commits, wrong_is_first, disorder_is_first, no_fault_at_all}
use Rattle.ssb_audit.proofs.answers.check_answers.Goals as goal

pub first_wrong-requires-clause-within : goal.first_wrong-requires-clause-within
first_wrong-requires-clause-within g c = λ κs outlives.
    within_commits (length c.args.commits.now) c.args.answers.now c.in_order_of-count.result.count
    c.in_order_of-count.result.fault c.in_order_of-count.ensures

pub returns-then-wrong-count : goal.returns-then-wrong-count
returns-then-wrong-count g c =
    let told = c.index-answers-wrong.result in
    inr (wrong_is_first c.args.base.now.value c.args.commits.now c.args.answers.now c.in_order_of-count.result.count
    c.in_ok-wrong.wrong c.in_order_of-count.result.fault told
    c.in_order_of-count.ensures c.in_ok-wrong.ensures c.if-wrong-count.true c.index-answers-wrong.is
    ∙ ap (λ n. Some (WrongRows told.client n)) (sym c.turn_of-turn.ensures))

pub returns-in-Some : goal.returns-in-Some
returns-in-Some g c =
    let count = c.in_order_of-count.result.count in
    let are = subst (AreInOrder (length c.args.commits.now) c.args.answers.now count) c.in-Some.is
    c.in_order_of-count.ensures in
    inr (disorder_is_first c.args.base.now.value c.args.commits.now c.args.answers.now count c.in_ok-wrong.wrong
    c.in-Some.fault are c.in_ok-wrong.ensures c.if-wrong-count.false)

pub returns-in-None : goal.returns-in-None
returns-in-None g c =
    let count = c.in_order_of-count.result.count in
    let are = subst (AreInOrder (length c.args.commits.now) c.args.answers.now count) c.in-None.is
    c.in_order_of-count.ensures in
    no_fault_at_all c.args.base.now.value c.args.commits.now c.args.answers.now count c.in_ok-wrong.wrong are
    c.in_ok-wrong.ensures c.if-wrong-count.false
