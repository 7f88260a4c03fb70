use Rattle.std.proofs.Common.{◌≡◌, false, refl, sym, ◌∙◌, ap, inr, arith, nat_eq}
use Rattle.std.specs.List.{starts_with}
use Rattle.ssb_journal.proofs.HeadLaws.{is_other, whole_head}
use Rattle.ssb_journal.proofs.head.check_lines.Goals as goal

pub returns-then-not-starts_with-clause-fault : goal.returns-then-not-starts_with-clause-fault
returns-then-not-starts_with-clause-fault c =
    let l = c.loop-mark in
    let other : starts_with nat_eq c.args.text.now c.push_mark.new.head.items ≡ false = ap (starts_with nat_eq c.args.text.now) (sym c.deref.ensures.value) ∙ sym c.starts_with.ensures.value ∙ c.if-not-starts_with.true in
    inr (_, refl, is_other c.args.form c.args.marks.now l.mark-index _ c.loop-mark-test.true l.head.items c.push_mark.new.head.items l.invariant.head c.in_ok-push_mark.ensures c.args.text.now l.invariant.begins other)

pub returns-clause-head : goal.returns-clause-head
returns-clause-head c =
    let l = c.loop-mark in
    whole_head c.args.form c.args.marks.now l.mark-index l.head.items c.args.text.now c.loop-mark-test.false l.invariant.head l.invariant.begins (omega arith)
