use Rattle.std.proofs.Common.{◌≡◌, ◌∙◌, ◌++◌, ap, length, rules, subst, sym}
use Rattle.row_store.specs.History.{Warehouse}
use Rattle.row_store.specs.Legal.{Fails}
use Rattle.row_store.specs.Refusals.{refusal_of}
use Rattle.ssb_journal.specs.Replays.{IsReplayFault}
use Rattle.ssb_journal.proofs.ReplayLaws.{fault_told}
use Rattle.ssb_journal.proofs.replaying.replay.Goals as goal

pub returns-in-Err-clause-fault : goal.returns-in-Err-clause-fault
returns-in-Err-clause-fault c =
    let l = c.loop-commit in
    let old = c.args.store.now in
    let commit = c.commit-item.result in
    let error = c.in-Err.error in
    let same : c.in_ok-refresh.refresh.value ≡ commit.actions = search rules in
    let fails = subst (λ actions. Fails error (refusal_of l.store.base l.store.log actions)) same c.in-Err.ensures.failed in
    let count = c.len.ensures.count ∙ ap (λ (w : Warehouse). length w.log) c.in-Err.ensures.unchanged in
    subst (IsReplayFault old.base (old.log ++ c.args.commits.now)) (sym c.fault_of.ensures)
    (fault_told old.base old.log c.args.commits.now l.store l.commit-index c.len.result commit error c.loop-commit-test.true
    c.commit-item.is l.invariant c.soundness.ensures.legal fails count)
