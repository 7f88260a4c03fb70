use Rattle.std.proofs.Common.{◌≡◌, ◌+◌, ◌-◌, ◌∙◌, None, [], ◌∷◌, ap, drop, sym, take}
use Rattle.row_store.specs.History.{CommitRecord}
use Rattle.row_store.specs.Refusals.{refusal_of}
use Rattle.changes_command.proofs.CommitLaws.{made_is_accepted, next_made, next_refused, next_written, part_of_one}
use Rattle.changes_command.proofs.history.write_commits.Goals as goal

pub returns-in-Err-clause-fault : goal.returns-in-Err-clause-fault
returns-in-Err-clause-fault g c =
    next_refused c.args.store.now.log c.args.commits.now c.loop-place.place c.index-commits-place.result
    c.loop-place-test.true c.args.store.now.base c.loop-place.store c.in-Err.fault c.loop-place.invariant.store
    c.in-Err.ensures.fault

pub loop-place-preserved : goal.loop-place-preserved
loop-place-preserved g c =
    let contents = g.W.Write.contents in
    let commits = c.args.commits.now in
    let i = c.loop-place.place in
    let commit = c.index-commits-place.result in
    let store = c.loop-place.store in
    let part : take (i + 1 - i) (drop i commits) ≡ commit ∷ [] =
    part_of_one commits i commit c.loop-place-test.true ∙ ap (λ x. x ∷ []) (sym c.index-commits-place.is) in
    let actions : c.deref.result.now ≡ commit.actions =
    c.deref.ensures ∙ ap (λ (r : CommitRecord). r.actions) c.commit.view_is in
    let accepted : refusal_of store.base store.log c.deref.result.now ≡ None =
    made_is_accepted store c.replay.new.store (take (i + 1 - i) (drop i commits)) commit c.deref.result.now
    c.in_default.ensures.store part actions c.soundness.ensures.legal in
    record {
      written = next_written c.args.asked.format c.args.asked.start c.args.asked.past c.args.store.now.base c.args.store.now.log commits
          store i commit c.deref.result.now (contents c.args.out.now) (contents c.loop-place.out)
          (contents c.write_accepted.new.out) c.loop-place-test.true c.index-commits-place.is
          c.loop-place.invariant.store actions c.loop-place.invariant.written
          (c.in_ok-write_accepted.ensures.written accepted);
      store = next_made c.args.store.now.log commits i commit c.loop-place-test.true c.args.store.now.base store
          c.replay.new.store c.loop-place.invariant.store c.in_default.ensures.store;
    }
