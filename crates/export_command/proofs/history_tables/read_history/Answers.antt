use Rattle.std.proofs.Common.{◌≡◌, ◌∙◌, Err, ap, refl, rules, subst, sym}
use Rattle.journal_opening.specs.declared.fault.OpeningFault.TheVariants as opening
use Rattle.row_store.specs.History.{Warehouse}
use Rattle.ssb_files.specs.declared.fault.Fault.TheVariants as common
use Rattle.ssb_files.specs.declared.job.JobFault.TheVariants as job
use Rattle.export_command.specs.Exported.{IsJournalRefusal}
use Rattle.export_command.specs.Histories.{IsHistoryRefusal, first_of}
use Rattle.export_command.specs.Standing.{Follows}
use Rattle.export_command.specs.declared.fault.ExportRefusal.TheVariants as refusal
use Rattle.export_command.proofs.ExportLaws.{refused_reading}
use Rattle.export_command.proofs.HistoryLaws.{history_refused, memory_lacks, tables_at, too_early}
use Rattle.export_command.proofs.history_tables.read_history.Goals as goal

pub returns-in_err-most-clause-fault : goal.returns-in_err-most-clause-fault
returns-in_err-most-clause-fault g c =
    let why = c.in_err-most.field-0.0 in
    let is : c.from_residual.result ≡ Err why = search rules in
    rw is (too_early c.args.source.base.value c.args.source.marks.now (g.U.UnreadDisk.holds c.args.source.file)
    c.args.moment.past c.args.moment.at why c.in_err-most.ensures.fault)

pub returns-in-Err-clause-fault : goal.returns-in-Err-clause-fault
returns-in-Err-clause-fault g c =
    let disk = g.U.UnreadDisk in
    let file = c.in-Err.field-0-1 in
    let base = c.args.source.base.value in
    let marks = c.args.source.marks.now in
    let known = disk.holds c.args.source.file in
    let why = job.Found (refusal.Journal (opening.Kept c.in-Err.fault)) in
    history_refused base marks known c.args.moment.past c.args.moment.at why
    (refused_reading base marks known (disk.holds file) (disk.taken file) (disk.is_ended file) why
    c.in-Err.ensures.known_err (g.met.U.UnreadDisk.as_known file)
    (λ whole begins. c.in-Err.ensures.fault whole begins) tt)

pub returns-in_err-store-clause-fault : goal.returns-in_err-store-clause-fault
returns-in_err-store-clause-fault g c =
    let is : c.from_residual-in_err-store.result ≡ Err (job.Program common.OutOfMemory) = search rules in
    rw is (memory_lacks c.args.source.base.value c.args.source.marks.now (g.U.UnreadDisk.holds c.args.source.file)
    c.args.moment.past c.args.moment.at common.OutOfMemory refl)

pub replay_first-requires-clause-orders : goal.replay_first-requires-clause-orders
replay_first-requires-clause-orders g c lifetimes within =
    subst (λ (store : Warehouse). Follows store.base store.log c.new-orders.result) (sym c.in_ok-store.ensures)
    (c.new-orders.ensures c.args.source.base.value)

pub returns-in-Err-replay_first-clause-fault : goal.returns-in-Err-replay_first-clause-fault
returns-in-Err-replay_first-clause-fault g c =
    let disk = g.U.UnreadDisk in
    let held = c.in_ok-store.store.base in
    let base = c.args.source.base.value in
    let marks = c.args.source.marks.now in
    let known = disk.holds c.args.source.file in
    let why = c.in-Err-replay_first.fault in
    let same : held ≡ base = ap (λ (store : Warehouse). store.base) c.in_ok-store.ensures in
    history_refused base marks known c.args.moment.past c.args.moment.at why
    (subst (λ b. IsJournalRefusal b marks known why) same
    (subst (λ m. IsJournalRefusal held m known why) c.in-Ok.ensures.marks
    (subst (λ k. IsJournalRefusal held c.in-Ok.journal.marks k why) c.in-Ok.ensures.known
    c.in-Err-replay_first.ensures.fault)))

pub returns-in_err-after-clause-fault : goal.returns-in_err-after-clause-fault
returns-in_err-after-clause-fault g c =
    let disk = g.U.UnreadDisk in
    let base = c.args.source.base.value in
    let marks = c.args.source.marks.now in
    let known = disk.holds c.args.source.file in
    let past = c.args.moment.past in
    let at = c.args.moment.at in
    let journal = c.in-Ok-replay_first.part.journal in
    let why = c.in_err-after.field-0.0 in
    let here : IsHistoryRefusal base marks known past at why =
    subst (λ m. IsHistoryRefusal base m known past at why)
    (c.in-Ok-replay_first.ensures.marks ∙ c.in-Ok.ensures.marks)
    (subst (λ k. IsHistoryRefusal base journal.marks k past at why)
    (c.in-Ok-replay_first.ensures.known ∙ c.in-Ok.ensures.known) (c.in_err-after.ensures.fault base)) in
    let is : c.from_residual-in_err-after.result ≡ Err why = search rules in
    rw is here

pub returns-clause-tables : goal.returns-clause-tables
returns-clause-tables g c =
    let disk = g.U.UnreadDisk in
    let base = c.args.source.base.value in
    let part = c.in-Ok-replay_first.part in
    let same : c.in_ok-store.store.base ≡ base = ap (λ (store : Warehouse). store.base) c.in_ok-store.ensures in
    let made : c.replay_first.new.store ≡ record { base = base; log = first_of c.in_ok-most.most part.journal.commits } =
    c.in-Ok-replay_first.ensures.store
    ∙ (λ i. record { base = same i; log = first_of c.in_ok-most.most part.journal.commits }) in
    tables_at base c.args.source.marks.now part.journal.marks (disk.holds c.args.source.file)
    (disk.holds part.journal.unread) c.args.moment.past c.args.moment.at c.new-tables.result c.replay_first.new.store
    (first_of c.in_ok-most.most part.journal.commits) c.in_ok-after.after made
    (c.in-Ok-replay_first.ensures.marks ∙ c.in-Ok.ensures.marks)
    (c.in-Ok-replay_first.ensures.known ∙ c.in-Ok.ensures.known) c.in_ok-after.ensures.there c.soundness.ensures.legal
    c.new-tables.ensures
