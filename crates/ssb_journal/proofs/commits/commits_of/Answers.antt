use Rattle.std.proofs.Common.{◌≡◌, suc, ◌+◌, Ok, drop, subst, ap, ◌∙◌, arith}
use Rattle.std.specs.List.{AllZip}
use Rattle.ssb_journal.proofs.BatchLaws.{next, none, not_spelled, spelled}
use Rattle.ssb_journal.proofs.KeptLaws.{commits_more, first_no_batch, none_left}
use Rattle.ssb_journal.specs.Gathered.{IsBatchOf}
use Rattle.ssb_journal.proofs.commits.commits_of.Goals as goal

pub loop-batch-preserved : goal.loop-batch-preserved
loop-batch-preserved g c =
    let l = c.loop-batch in
    let texts = c.args.texts.now in
    let left = subst (AllZip (λ text found. IsBatchOf text.items found) (drop l.count texts))
    c.in-Some.ensures.steps.0 l.invariant.2 in
    let text = next (λ text found. IsBatchOf text.items found) texts l.count c.in-Some.batch
    c.next.new.self.rest.items left in
    let one = spelled text.x.items c.in-Some.batch c.in-Some-2.batch (c.in_ok-batch.was ∙ ap Ok c.in-Some-2.is)
    text.one in
    let later : suc l.count ≡ l.count + 1 = omega arith in (
      omega (arith, text.inside),
      commits_more texts l.count text.x text.inside text.is l.commits.items c.in-Some-2.batch.items
          c.push_all.new.commits.items l.invariant.1 one c.in_ok-push_all.ensures,
      subst (λ n. AllZip (λ text found. IsBatchOf text.items found) (drop n texts) c.next.new.self.rest.items) later
          text.later,
    )

pub returns-in_default-clause-next : goal.returns-in_default-clause-next
returns-in_default-clause-next g c few =
    let l = c.loop-batch in
    let texts = c.args.texts.now in
    let left = subst (AllZip (λ text found. IsBatchOf text.items found) (drop l.count texts))
    c.in-Some.ensures.steps.0 l.invariant.2 in
    let text = next (λ text found. IsBatchOf text.items found) texts l.count c.in-Some.batch
    c.next.new.self.rest.items left in
    first_no_batch texts l.count text.x text.inside text.is l.commits.items l.invariant.1
    (not_spelled text.x.items c.in-Some.batch (c.in_ok-batch.was ∙ ap Ok c.in_default.is) text.one)

pub returns-clause-next : goal.returns-clause-next
returns-clause-next g c few =
    let l = c.loop-batch in
    let end = none_left l.batch-iterator.rest.items
    (omega (arith, l.batch-iterator.rest.ok.0, c.in-None.ensures.steps.0)) in
    let all = none (λ text found. IsBatchOf text.items found) c.args.texts.now l.count
    (subst (AllZip (λ text found. IsBatchOf text.items found) (drop l.count c.args.texts.now)) end l.invariant.2) in
    absurd (omega (arith, all, few))
