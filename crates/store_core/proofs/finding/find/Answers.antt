use Rattle.std.proofs.Common.{◌<◌, ◌+◌, ◌^◌, ◌++◌, ◌∷◌, ℕ, length, refl, sym, ap, ◌∙◌, subst, arith}
use Rattle.std.specs.Prelude.{SomeIff}
use Rattle.store_core.specs.Found.{Store, AreNewest}
use Rattle.store_core.specs.Finding.{AreNumbersOf}
use Rattle.store_core.specs.Walked.{IsWalked}
use Rattle.store_core.proofs.FindLaws.{newest_as, listed, begins, skips, finds, seen-more, seen-less}
use Rattle.store_core.proofs.finding.find.Goals as goal
use Rattle.store_core.proofs.finding.find.Goals.{then-segments-place+in_ok-follow, else-segments-place}

pub loop-place-init : goal.loop-place-init
loop-place-init g c =
    let at = c.in-Some.after.now in
    let store = g.R.ReadsSegments.store c.args.reader.now in
    record {
      walked = subst (λ (s : Store g.row.R-Tables.Denot g.row.R-Commit.Denot). IsWalked s.segments c.args.segments.now 0
          record { after = at; closed = c.new.result; last = at } c.checked_add-next.result) (sym c.read.ensures.same)
          (begins store.segments c.args.segments.now c.requires.segments at c.new.result c.checked_add-next.result
          c.new.ensures.items
          (listed store.segments c.args.segments.now at c.requires.segments.there (sym c.if-not-contains.ensures.value))
          (subst (λ (count : ℕ). SomeIff c.checked_add-next.result (at + count < 2 ^ 64) (at + count))
          c.in-Ok.ensures.count c.checked_add-next.ensures));
      after = refl;
      same = c.read.ensures.same;
      seen = c.read.ensures.seen;
    }

pub follow-requires-clause-newest : goal.follow-requires-clause-newest
follow-requires-clause-newest g c =
    subst (λ (s : Store g.row.R-Tables.Denot g.row.R-Commit.Denot).
    (tables : g.row.R-Tables.Denot) × AreNewest s.tables c.loop-place.found.after tables) (sym c.loop-place.invariant.same)
    (newest_as (g.R.ReadsSegments.store c.args.reader.now).tables c.args.tables.now c.requires.tables c.in-Some.after.now
    c.loop-place.found.after c.loop-place.invariant.after c.in-Some.ensures.value)

pub loop-place-preserved : goal.loop-place-preserved
loop-place-preserved g c = elim c.if-segments-place.branch [
  | then-segments-place+in_ok-follow w ↦ rw (w.reader-is, w.next-is, w.found-is) (record {
    walked = subst (λ (s : Store g.row.R-Tables.Denot g.row.R-Commit.Denot). IsWalked s.segments c.args.segments.now
        (c.loop-place.place + 1) w.follow.new.found w.follow.new.next) (sym w.follow.ensures.same)
        w.in_ok-follow.ensures.walked;
    after = w.follow.ensures.after ∙ c.loop-place.invariant.after;
    same = w.follow.ensures.same ∙ c.loop-place.invariant.same;
    seen = seen-more _ _ _ _ _ _ c.loop-place-test.true w.if-segments-place.true c.loop-place.invariant.seen
        w.in_ok-follow.ensures.seen;
  })
  | else-segments-place w ↦ rw (w.reader-is, w.next-is, w.found-is) (record {
    walked = skips (g.R.ReadsSegments.store c.loop-place.reader).segments c.args.segments.now
        (subst (λ (s : Store g.row.R-Tables.Denot g.row.R-Commit.Denot). AreNumbersOf s.segments c.args.segments.now)
        (sym c.loop-place.invariant.same) c.requires.segments) c.loop-place.place
        c.loop-place.found c.loop-place.next c.loop-place.invariant.walked c.loop-place-test.true
        (omega (arith, w.if-segments-place.false, c.loop-place.invariant.after));
    after = c.loop-place.invariant.after;
    same = c.loop-place.invariant.same;
    seen = c.loop-place.invariant.seen
        ∙ ap (λ l. g.R.ReadsSegments.seen c.args.reader.now ++ c.in-Some.after.now ∷ l)
        (seen-less c.args.segments.now c.in-Some.after.now c.loop-place.place c.loop-place-test.true
        w.if-segments-place.false);
  })
]

pub returns-clause-found : goal.returns-clause-found
returns-clause-found g c =
    let store = g.R.ReadsSegments.store c.args.reader.now in
    let n = newest_as store.tables c.args.tables.now c.requires.tables c.in-Some.after.now c.loop-place.found.after
    c.loop-place.invariant.after c.in-Some.ensures.value in
    finds store c.args.segments.now c.loop-place.found c.loop-place.next n.0 c.requires.segments n.1
    (subst (λ (s : Store g.row.R-Tables.Denot g.row.R-Commit.Denot). IsWalked s.segments c.args.segments.now
    (length c.args.segments.now) c.loop-place.found c.loop-place.next) c.loop-place.invariant.same
    (subst (λ (k : ℕ). IsWalked (g.R.ReadsSegments.store c.loop-place.reader).segments c.args.segments.now k
    c.loop-place.found c.loop-place.next) (omega (arith, c.loop-place-test.false, c.loop-place.auto.place-end))
    c.loop-place.invariant.walked))
