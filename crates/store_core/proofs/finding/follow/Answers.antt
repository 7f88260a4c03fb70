use Rattle.std.proofs.Common.{◌<◌, ◌+◌, ◌^◌, ℕ, length, subst, inr, rules}
use Rattle.std.specs.Prelude.{SomeIff, slice_index}
use Rattle.store_core.proofs.FindLaws.{is-next, is-other, no-commits, passes, goes-on, strays}
use Rattle.store_core.proofs.finding.follow.Goals as goal

pub returns-then-eq-clause-walked : goal.returns-then-eq-clause-walked
returns-then-eq-clause-walked g c =
    let x = slice_index c.args.segments.now c.args.place in
    let w = c.requires.walked in
    goes-on (g.R.ReadsSegments.store c.args.reader.now).segments c.args.segments.now c.requires.numbers c.args.place
    c.args.found.now c.args.next.now w c.requires.place c.push.new.self c.checked_add.result c.requires.behind
    (is-next c.args.next.now x (c.args.found.now.last + length w.end) w.next_is c.if-eq.ensures)
    c.in_ok-push.ensures.items
    (subst (λ (count : ℕ). SomeIff c.checked_add.result (x + count < 2 ^ 64) (x + count)) c.in-Ok.ensures.count
    c.checked_add.ensures)

pub returns-in-Ok-true-clause-fault : goal.returns-in-Ok-true-clause-fault
returns-in-Ok-true-clause-fault g c =
    let x = slice_index c.args.segments.now c.args.place in
    let w = c.requires.walked in
    record {
      after = c.args.found.now.after;
      tables = c.requires.newest.0;
      newest = c.requires.newest.1;
      gap = inr (strays (g.R.ReadsSegments.store c.args.reader.now).segments c.args.segments.now c.requires.numbers
          c.args.place c.args.found.now c.args.next.now w c.requires.place c.requires.behind
          (is-other c.args.next.now x (c.args.found.now.last + length w.end) (search rules) w.next_is
          c.if-eq.ensures)
          (c.in-Ok-true.ensures.answer.0 c.in-Ok-true.field-0-test));
    }

pub returns-in-Ok-false-clause-walked : goal.returns-in-Ok-false-clause-walked
returns-in-Ok-false-clause-walked g c =
    let x = slice_index c.args.segments.now c.args.place in
    let w = c.requires.walked in
    passes (g.R.ReadsSegments.store c.args.reader.now).segments c.args.segments.now c.requires.numbers c.args.place
    c.args.found.now c.args.next.now w c.requires.place
    (λ far. no-commits _ c.in-Ok-false.field-0 c.in-Ok-false.field-0-test c.in-Ok-false.ensures.answer.1)
    (λ some. is-other c.args.next.now x (c.args.found.now.last + length w.end) (search rules) w.next_is
    c.if-eq.ensures)
