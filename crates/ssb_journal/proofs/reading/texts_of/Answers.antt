use Rattle.std.proofs.Common.{Ok, ap, ◌∙◌, subst, arith}
use Rattle.ssb_journal.proofs.BatchLaws.{IsUnsealed, no_groups, unsealed_all, unsealed_damaged, unsealed_first, unsealed_more}
use Rattle.ssb_journal.proofs.KeptLaws.{none_left}
use Rattle.ssb_journal.proofs.reading.texts_of.Goals as goal

pub loop-text-init : goal.loop-text-init
loop-text-init g c =
    rw (c.new-texts.ensures.items, c.into_iter-text-iterator.ensures.into_iter_gives.0)
    (unsealed_first c.args.groups.now c.in_ok-text-items.text-items.items c.in_ok-text-items.ensures)

pub loop-text-preserved : goal.loop-text-preserved
loop-text-preserved g c =
    let l = c.loop-text in
    unsealed_more c.args.groups.now l.texts.items c.push.new.self.items c.in-Some.text c.next.new.self.rest.items
    c.in-Some-2.text (subst (IsUnsealed c.args.groups.now l.texts.items) c.in-Some.ensures.steps.0 l.invariant)
    (c.in_ok-text.was ∙ ap Ok c.in-Some-2.is) c.in_ok-push.ensures.items

pub returns-in_default-clause-texts : goal.returns-in_default-clause-texts
returns-in_default-clause-texts g c before =
    let l = c.loop-text in
    unsealed_damaged c.args.groups.now l.texts.items c.in-Some.text c.next.new.self.rest.items
    (subst (IsUnsealed c.args.groups.now l.texts.items) c.in-Some.ensures.steps.0 l.invariant)
    (c.in_ok-text.was ∙ ap Ok c.in_default.is) before

pub returns-clause-texts : goal.returns-clause-texts
returns-clause-texts g c before =
    let l = c.loop-text in
    let end = none_left l.text-iterator.rest.items (omega (arith, l.text-iterator.rest.ok.0, c.in-None.ensures.steps.0)) in
    unsealed_all c.args.groups.now l.texts.items (subst (IsUnsealed c.args.groups.now l.texts.items) end l.invariant) before

pub returns-clause-end : goal.returns-clause-end
returns-clause-end g c none sound =
    let l = c.loop-text in
    let end = none_left l.text-iterator.rest.items (omega (arith, l.text-iterator.rest.ok.0, c.in-None.ensures.steps.0)) in
    no_groups c.args.groups.now l.texts.items (subst (IsUnsealed c.args.groups.now l.texts.items) end l.invariant) none
