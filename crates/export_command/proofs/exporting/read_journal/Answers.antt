use Rattle.std.proofs.Common.{◌≡◌, ◌∙◌, Err, refl, rules, ap, subst, sym}
use Rattle.row_store.specs.History.{Warehouse}
use Rattle.journal_opening.specs.declared.fault.OpeningFault.TheVariants as opening
use Rattle.ssb_files.specs.declared.fault.Fault.TheVariants as common
use Rattle.ssb_files.specs.declared.job.JobFault.TheVariants as job
use Rattle.export_command.specs.Standing.{Follows}
use Rattle.export_command.specs.declared.fault.ExportRefusal.TheVariants as refusal
use Rattle.export_command.proofs.ExportLaws.{is_whole, lacks_memory, of_file, refused_reading}
use Rattle.export_command.proofs.exporting.read_journal.Goals as goal

pub returns-in-Err-clause-fault : goal.returns-in-Err-clause-fault
returns-in-Err-clause-fault g c =
    let disk = g.U.UnreadDisk in
    let file = c.in-Err.field-0-1 in
    refused_reading c.args.source.base.value c.args.source.marks.now (disk.holds c.args.source.file) (disk.holds file)
    (disk.taken file) (disk.is_ended file) (job.Found (refusal.Journal (opening.Kept c.in-Err.fault)))
    c.in-Err.ensures.known_err (g.met.U.UnreadDisk.as_known file)
    (λ whole begins. c.in-Err.ensures.fault whole begins) tt

pub returns-in_err-shared-clause-fault : goal.returns-in_err-shared-clause-fault
returns-in_err-shared-clause-fault g c =
    let is : c.from_residual.result ≡ Err (job.Program common.OutOfMemory) = search rules in
    rw is (lacks_memory c.args.source.base.value c.args.source.marks.now (g.U.UnreadDisk.holds c.args.source.file)
    common.OutOfMemory refl)

pub returns-in_err-store-clause-fault : goal.returns-in_err-store-clause-fault
returns-in_err-store-clause-fault g c =
    let is : c.from_residual-in_err-store.result ≡ Err (job.Program common.OutOfMemory) = search rules in
    rw is (lacks_memory c.args.source.base.value c.args.source.marks.now (g.U.UnreadDisk.holds c.args.source.file)
    common.OutOfMemory refl)

pub replay_first-requires-clause-orders : goal.replay_first-requires-clause-orders
replay_first-requires-clause-orders g c lifetimes within =
    subst (λ (store : Warehouse). Follows store.base store.log c.new-orders.result) (sym c.in_ok-store.ensures)
    (c.new-orders.ensures c.in_ok-shared.shared.value)

pub finish-found-requires : goal.finish-found-requires
finish-found-requires g c =
    c.in-Ok-replay_first.ensures.end (is_whole c.in-Ok-replay_first.part.is_whole c.in-Ok-replay_first.ensures.enough)

pub invariant_of-result : goal.invariant_of-result
invariant_of-result g c =
    let shared : c.in_ok-shared.shared.value ≡ c.args.source.base.value = search rules in
    let base : c.in_ok-store.store.base ≡ c.args.source.base.value =
    ap (λ (store : Warehouse). store.base) c.in_ok-store.ensures ∙ shared in
    of_file c.args.source.base.value c.in_ok-store.store.base c.args.source.marks.now c.in-Ok-replay_first.part.journal.marks
    (g.U.Whole.Disk.seen c.finish-found.result.found) c.finish-found.result.torn.items c.finish-found.result.kept
    c.new-tables.result c.replay_first.new.store c.in-Ok-replay_first.part.journal.commits c.len.result
    c.in-Ok-replay_first.ensures.store base c.finish-found.ensures.commits
    (c.in-Ok-replay_first.ensures.marks ∙ c.in-Ok.ensures.marks) c.finish-found.ensures.kept c.soundness.ensures.legal
    c.new-tables.ensures c.finish-found.ensures.torn (search rules)
