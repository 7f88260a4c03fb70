use Rattle.std.proofs.Common.{arith, subst}
use Rattle.ssb_journal.specs.Counts.{KeepsFirst}
use Rattle.ssb_journal.proofs.CountLaws.{counted, have_first, keeps_whole, leaves_beginning, left_failed, since_goes_on}
use Rattle.ssb_journal.proofs.journaled_log.append_given.Goals as goal

pub returns-in-Ok-clause-any_moment : goal.returns-in-Ok-clause-any_moment
returns-in-Ok-clause-any_moment g c =
    leaves_beginning g.D.Disk.moment g.D.Disk.left_since g.D.Disk.seen c.args.count (g.L.LogSource.log c.args.source) c.args.commits.items c.args.journal c.in-Ok.journal c.requires.given c.requires.kept c.in-Ok.ensures.any_moment

pub returns-in-Err-clause-any_moment_err : goal.returns-in-Err-clause-any_moment_err
returns-in-Err-clause-any_moment_err g c =
    leaves_beginning g.D.Disk.moment g.D.Disk.left_since g.D.Disk.seen c.args.count (g.L.LogSource.log c.args.source) c.args.commits.items c.args.journal c.in-Err.disk c.requires.given c.requires.kept c.in-Err.ensures.any_moment_err

pub invariant_of-result : goal.invariant_of-result
invariant_of-result g c = (
  subst (λ n. KeepsFirst n (g.L.LogSource.log c.args.source) (g.D.Disk.seen c.in-Ok.journal))
      (omega (arith, c.len-more.ensures, c.args.commits.ok.0, c.args.commits.ok.1, counted c.args.count (g.L.LogSource.log c.args.source) c.args.commits.items c.requires.given c.requires.kept.inside))
      (keeps_whole c.args.count (g.L.LogSource.log c.args.source) c.args.commits.items (g.D.Disk.seen c.args.journal) (g.D.Disk.seen c.in-Ok.journal) c.requires.given c.requires.kept c.in-Ok.ensures.acknowledged),
  since_goes_on g.D.Disk.moment g.D.Disk.left_since g.D.Disk.seen g.L.LogSource.begun c.args.count _ (g.L.LogSource.log c.args.source) c.args.journal c.in-Ok.journal (omega arith) c.requires.since
      (leaves_beginning g.D.Disk.moment g.D.Disk.left_since g.D.Disk.seen c.args.count (g.L.LogSource.log c.args.source) c.args.commits.items c.args.journal c.in-Ok.journal c.requires.given c.requires.kept c.in-Ok.ensures.any_moment),
)

pub invariant_of-result-in-Err : goal.invariant_of-result-in-Err
invariant_of-result-in-Err g c =
    let run = leaves_beginning g.D.Disk.moment g.D.Disk.left_since g.D.Disk.seen c.args.count (g.L.LogSource.log c.args.source) c.args.commits.items c.args.journal c.in-Err.disk c.requires.given c.requires.kept c.in-Err.ensures.any_moment_err in (
      left_failed g.D.Disk.moment g.D.Disk.left_since g.D.Disk.seen g.D.Disk.may_leave g.met.D.Disk.counts_now c.args.count (g.L.LogSource.log c.args.source) c.args.journal c.in-Err.disk run,
      since_goes_on g.D.Disk.moment g.D.Disk.left_since g.D.Disk.seen g.L.LogSource.begun c.args.count c.args.count (g.L.LogSource.log c.args.source) c.args.journal c.in-Err.disk (omega arith) c.requires.since run,
      have_first c.args.count (g.L.LogSource.log c.args.source) (g.D.Disk.seen c.args.journal) (g.D.Disk.promised c.in-Err.disk) c.requires.kept c.in-Err.ensures.promised_err,
    )
