use Rattle.std.proofs.Common.{◌≡◌, ◌+◌, false, length, refl, rules, subst, sym}
use Rattle.journal_opening.specs.Kept.{HasCommits}
use Rattle.ssb_files.specs.declared.fault.Fault.TheVariants as common
use Rattle.ssb_files.specs.declared.job.JobFault.TheVariants as job
use Rattle.export_command.specs.Histories.{AreThere, IsHistoryRefusal, IsMost, first_of}
use Rattle.export_command.specs.declared.fault.ExportRefusal.TheVariants as refusal
use Rattle.export_command.proofs.HistoryLaws.{has_kept, memory_lacks, part_there, too_few, whole_there}
use Rattle.export_command.proofs.history_tables.end_of.Goals as goal

pub returns-in_default-clause-fault : goal.returns-in_default-clause-fault
returns-in_default-clause-fault g c = λ base.
    memory_lacks base c.args.part.journal.marks (g.U.UnreadDisk.holds c.args.part.journal.unread) c.args.moment.past
    c.args.moment.at common.OutOfMemory refl

pub returns-then-not-is_whole-clause-there : goal.returns-then-not-is_whole-clause-there
returns-then-not-is_whole-clause-there g c =
    let disk = g.U.UnreadDisk in
    let journal = c.args.part.journal in
    let part : c.args.part.is_whole ≡ false = search rules in
    let many : c.in-Some.after ≡ c.args.moment.past + length (first_of c.args.most journal.commits) = search rules in
    part_there journal.marks (disk.holds journal.unread) c.args.moment.past c.args.moment.at c.args.most journal.commits
    (disk.taken journal.unread) (disk.is_ended journal.unread) c.in-Some.after c.requires.most (c.requires.enough part)
    (g.met.U.UnreadDisk.as_known journal.unread) (c.requires.kept part) many

pub returns-then-after-number-clause-fault : goal.returns-then-after-number-clause-fault
returns-then-after-number-clause-fault g c = λ base.
    let disk = g.U.UnreadDisk in
    let journal = c.args.part.journal in
    let past = c.args.moment.past in
    let number = c.in-Some-at.number in
    let file = g.U.Whole.Disk.seen c.finish.result.found in
    let why = job.Found (refusal.Commit (record { number = number })) in
    let many : c.in-Some.after ≡ past + length (first_of c.args.most journal.commits) = search rules in
    let has : HasCommits journal.marks journal.commits file =
    subst (λ commits. HasCommits journal.marks commits file) c.finish.ensures.commits
    (has_kept journal.marks file c.finish.result.kept c.finish.ensures.kept) in
    subst (λ at. IsHistoryRefusal base journal.marks (disk.holds journal.unread) past at why) (sym c.in-Some-at.is)
    (too_few base journal.marks (disk.holds journal.unread) past number c.args.most journal.commits file c.in-Some.after
    (subst (λ at. IsMost past at c.args.most) c.in-Some-at.is c.requires.most) c.finish.ensures.known has many
    (search rules))

pub returns-clause-there : goal.returns-clause-there
returns-clause-there g c =
    let disk = g.U.UnreadDisk in
    let journal = c.args.part.journal in
    let past = c.args.moment.past in
    let number = c.in-Some-at.number in
    let file = g.U.Whole.Disk.seen c.finish.result.found in
    let many : c.in-Some.after ≡ past + length (first_of c.args.most journal.commits) = search rules in
    let has : HasCommits journal.marks journal.commits file =
    subst (λ commits. HasCommits journal.marks commits file) c.finish.ensures.commits
    (has_kept journal.marks file c.finish.result.kept c.finish.ensures.kept) in
    subst (λ at. AreThere journal.marks (disk.holds journal.unread) past at (first_of c.args.most journal.commits)
    c.in-Some.after) (sym c.in-Some-at.is)
    (whole_there journal.marks (disk.holds journal.unread) past number c.args.most journal.commits file c.in-Some.after
    (subst (λ at. IsMost past at c.args.most) c.in-Some-at.is c.requires.most) c.finish.ensures.known has many
    (search rules))
