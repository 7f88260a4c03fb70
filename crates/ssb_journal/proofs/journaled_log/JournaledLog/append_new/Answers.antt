use Rattle.std.proofs.Common.{◌≡◌, ◌<◌, ◌∙◌, List, drop, false, ap, sym, subst}
use Rattle.std.specs.Prelude.{IfErr}
use Rattle.journal.specs.Disk.{LeavesOnly, Only}
use Rattle.journal.specs.declared.disk.DiskError.TheVariants.{Failed, Full}
use Rattle.row_store.specs.History.{CommitRecord}
use Rattle.ssb_journal.specs.Counts.{Journaled, KeepsBeginning, KeepsFirst, KeepsSince}
use Rattle.ssb_journal.specs.Kept.{HasNoRoom}
use Rattle.ssb_journal.proofs.CountLaws.{both_err, have_first, keeps_of_longer, left_whole, since_of_longer, stays_beginning}
use Rattle.ssb_journal.proofs.journaled_log.JournaledLog.append_new.Goals as goal

pub returns-in-Ok-2-clause-any_moment_err : goal.returns-in-Ok-2-clause-any_moment_err
returns-in-Ok-2-clause-any_moment_err g c =
    let log = g.L.LogSource.log in
    let Left : Journaled g.row.D.Denot g.row.L.Denot → g.row.D.Denot → List CommitRecord → Type 0 = λ before after all. LeavesOnly g.D.Disk.moment g.D.Disk.left_since before.disk after (KeepsBeginning before.count all) in
    let before : Journaled g.row.D.Denot g.row.L.Denot = record { disk = c.self.inside.journal; source = c.self.inside.source; count = c.self.inside.count } in
    both_err c.append_given.result (λ e. Left before e.1.disk (log c.commits_from.new.self))
    (λ e. (e.1.source ≡ c.commits_from.new.self) × (e.1.count ≡ c.self.inside.count))
    (λ e. Left c.args.self e.1.disk (log e.1.source))
    c.append_given.ensures.any_moment_err c.append_given.ensures.same_err
    (λ e left same. subst (λ (self : Journaled g.row.D.Denot g.row.L.Denot). Left self e.1.disk (log e.1.source)) c.self.view_is
    (subst (λ (source : g.row.L.Denot). Left before e.1.disk (log source)) (sym same.0) left))

pub returns-in-Err-clause-any_moment_err : goal.returns-in-Err-clause-any_moment_err
returns-in-Err-clause-any_moment_err g c =
    let log = g.L.LogSource.log in
    let Left : Journaled g.row.D.Denot g.row.L.Denot → g.row.D.Denot → List CommitRecord → Type 0 = λ before after all. LeavesOnly g.D.Disk.moment g.D.Disk.left_since before.disk after (KeepsBeginning before.count all) in
    let before : Journaled g.row.D.Denot g.row.L.Denot = record { disk = c.self.inside.journal; source = c.self.inside.source; count = c.self.inside.count } in
    let all = log c.commits_from.new.self in
    let first : KeepsFirst before.count all (g.D.Disk.seen before.disk) = keeps_of_longer before.count (log before.source) all (g.D.Disk.seen before.disk) c.commits_from.ensures.grown c.self.invariant.0 in
    let durable : Only (g.D.Disk.seen before.disk) (g.D.Disk.may_leave before.disk) = subst (λ (disk : g.row.D.Denot). Only (g.D.Disk.seen disk) (g.D.Disk.may_leave disk)) c.into_disk.ensures.same c.into_disk.ensures.durable in
    let stayed : Left before before.disk all = stays_beginning g.D.Disk.moment g.D.Disk.left_since g.D.Disk.seen before.count all before.disk g.D.Disk.may_leave first (λ file left. g.met.D.Disk.only_now before.disk file left) durable in
    subst (λ (self : Journaled g.row.D.Denot g.row.L.Denot). Left self c.into_disk.result all) c.self.view_is
    (subst (λ (after : g.row.D.Denot). Left before after all) (sym c.into_disk.ensures.same) stayed)

pub invariant_of-result : goal.invariant_of-result
invariant_of-result g c =
    let log = g.L.LogSource.log in
    let journal = c.self.inside.journal in (
      keeps_of_longer c.self.inside.count (log c.self.inside.source) (log c.commits_from.new.self) (g.D.Disk.seen journal)
          c.commits_from.ensures.grown c.self.invariant.0,
      since_of_longer g.L.LogSource.begun (g.D.Disk.moment journal) (g.D.Disk.left_since journal) c.self.inside.count
          (log c.self.inside.source) (log c.commits_from.new.self) c.commits_from.ensures.grown c.self.invariant.1,
    )

pub invariant_of-result-in-Err : goal.invariant_of-result-in-Err
invariant_of-result-in-Err g c =
    let log = g.L.LogSource.log in
    let all = log c.commits_from.new.self in
    let disk = c.into_disk.result in
    let first : KeepsFirst c.self.inside.count all (g.D.Disk.seen disk) =
    subst (λ (d : g.row.D.Denot). KeepsFirst c.self.inside.count all (g.D.Disk.seen d)) (sym c.into_disk.ensures.same)
    (keeps_of_longer c.self.inside.count (log c.self.inside.source) all (g.D.Disk.seen c.self.inside.journal) c.commits_from.ensures.grown c.self.invariant.0) in (
      left_whole (g.D.Disk.may_leave disk) (g.D.Disk.seen disk) c.self.inside.count all false c.into_disk.ensures.durable first,
      subst (λ (d : g.row.D.Denot). KeepsSince g.L.LogSource.begun (g.D.Disk.moment d) (g.D.Disk.left_since d) c.self.inside.count all) (sym c.into_disk.ensures.same)
          (since_of_longer g.L.LogSource.begun (g.D.Disk.moment c.self.inside.journal) (g.D.Disk.left_since c.self.inside.journal) c.self.inside.count (log c.self.inside.source) all c.commits_from.ensures.grown c.self.invariant.1),
      have_first c.self.inside.count all (g.D.Disk.seen disk) (g.D.Disk.promised disk) first c.into_disk.ensures.promised,
    )

pub returns-in-Ok-2-clause-failed : goal.returns-in-Ok-2-clause-failed
returns-in-Ok-2-clause-failed g c =
    let faults = g.D.Disk.faults in
    subst (λ (self : Journaled g.row.D.Denot g.row.L.Denot). IfErr c.append_given.result (λ e. e.0 ≡ Failed → faults self.disk < faults e.1.disk))
    c.self.view_is c.append_given.ensures.failed

pub returns-in-Ok-2-clause-full : goal.returns-in-Ok-2-clause-full
returns-in-Ok-2-clause-full g c =
    let log = g.L.LogSource.log in
    let seen = g.D.Disk.seen in
    let before : Journaled g.row.D.Denot g.row.L.Denot = record { disk = c.self.inside.journal; source = c.self.inside.source; count = c.self.inside.count } in
    both_err c.append_given.result (λ e. e.0 ≡ Full → HasNoRoom (seen before.disk) c.in-Ok.commits.items)
    (λ e. (e.1.source ≡ c.commits_from.new.self) × (e.1.count ≡ before.count))
    (λ e. e.0 ≡ Full → HasNoRoom (seen c.args.self.disk) (drop c.args.self.count (log e.1.source)))
    c.append_given.ensures.full c.append_given.ensures.same_err
    (λ e full same is. subst (λ (self : Journaled g.row.D.Denot g.row.L.Denot). HasNoRoom (seen self.disk) (drop self.count (log e.1.source))) c.self.view_is
    (subst (HasNoRoom (seen before.disk))
    (c.in-Ok.ensures.commits ∙ ap (λ (source : g.row.L.Denot). drop before.count (log source)) (sym same.0)) (full is)))

pub append_given-requires-clause-since : goal.append_given-requires-clause-since
append_given-requires-clause-since g c =
    let log = g.L.LogSource.log in
    since_of_longer g.L.LogSource.begun (g.D.Disk.moment c.self.inside.journal) (g.D.Disk.left_since c.self.inside.journal)
    c.self.inside.count (log c.self.inside.source) (log c.commits_from.new.self) c.commits_from.ensures.grown
    c.self.invariant.1
