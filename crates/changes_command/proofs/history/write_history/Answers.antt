use Rattle.std.proofs.Common.{◌≡◌, ◌∙◌, Err, ap, refl, rules, subst, sym}
use Rattle.std.specs.Io.KnownBytes.{Appends}
use Rattle.journal.specs.Groups.{recovered}
use Rattle.journal_opening.specs.Kept.{IsKnown}
use Rattle.journal_opening.specs.declared.fault.OpeningFault.TheVariants as opening
use Rattle.row_store.specs.History.{Warehouse}
use Rattle.ssb_files.specs.declared.fault.Fault.TheVariants as common
use Rattle.ssb_files.specs.declared.job.JobFault.TheVariants as job
use Rattle.ssb_journal.specs.Opening.{IsKept}
use Rattle.changes_command.specs.Signed.{asked_of, changes_behind, signed}
use Rattle.changes_command.specs.SignedText.{lines_text}
use Rattle.changes_command.specs.Written.{IsFileRefusal}
use Rattle.changes_command.specs.declared.fault.ChangesRefusal.TheVariants as refusal
use Rattle.changes_command.specs.declared.signed.Sign.TheVariants.{Came}
use Rattle.changes_command.proofs.FaultLaws.{call_failed, refused_reading, too_early}
use Rattle.changes_command.proofs.HistoryLaws.{is_written, store_of, too_far}
use Rattle.changes_command.proofs.history.write_history.Goals as goal

pub returns-in_err-check_begins-clause-fault : goal.returns-in_err-check_begins-clause-fault
returns-in_err-check_begins-clause-fault g c =
    let base = c.args.source.base.value in
    let marks = c.args.source.marks.now in
    let known = g.U.UnreadDisk.holds c.args.source.file in
    let past = c.args.asked.past in
    let start = c.args.asked.start in
    let why = c.in_err-check_begins.field-0.0 in
    let is : c.from_residual.result ≡ Err why = search rules in
    let here : IsFileRefusal base marks known past start why =
    too_early base marks known past start why c.in_err-check_begins.ensures.fault in
    rw is here

pub returns-in-Err-clause-fault : goal.returns-in-Err-clause-fault
returns-in-Err-clause-fault g c =
    let disk = g.U.UnreadDisk in
    let file = c.in-Err.field-0-1 in
    refused_reading c.args.source.base.value c.args.source.marks.now (disk.holds c.args.source.file) (disk.holds file)
    (disk.taken file) (disk.is_ended file) c.args.asked.past c.args.asked.start
    (job.Found (refusal.Journal (opening.Kept c.in-Err.fault))) c.in-Err.ensures.known_err
    (g.met.U.UnreadDisk.as_known file) (λ whole begins. c.in-Err.ensures.fault whole begins)

pub returns-in_err-write_heads-clause-fault : goal.returns-in_err-write_heads-clause-fault
returns-in_err-write_heads-clause-fault g c =
    let base = c.args.source.base.value in
    let marks = c.args.source.marks.now in
    let known = g.U.UnreadDisk.holds c.args.source.file in
    let past = c.args.asked.past in
    let start = c.args.asked.start in
    let is : c.from_residual-in_err-write_heads.result ≡ Err c.in_err-write_heads.field-0.0 = search rules in
    let here : IsFileRefusal base marks known past start c.in_err-write_heads.field-0.0 =
    subst (IsFileRefusal base marks known past start) (sym c.in_err-write_heads.ensures.fault)
    (call_failed base marks known past start common.WriteFailed refl) in
    rw is here

pub returns-in_err-write_loaded-clause-fault : goal.returns-in_err-write_loaded-clause-fault
returns-in_err-write_loaded-clause-fault g c =
    let base = c.args.source.base.value in
    let marks = c.args.source.marks.now in
    let known = g.U.UnreadDisk.holds c.args.source.file in
    let past = c.args.asked.past in
    let start = c.args.asked.start in
    let is : c.from_residual-in_err-write_loaded.result ≡ Err c.in_err-write_loaded.field-0.0 = search rules in
    let here : IsFileRefusal base marks known past start c.in_err-write_loaded.field-0.0 =
    subst (IsFileRefusal base marks known past start) (sym c.in_err-write_loaded.ensures.fault)
    (call_failed base marks known past start common.WriteFailed refl) in
    rw is here

pub returns-in_err-store-clause-fault : goal.returns-in_err-store-clause-fault
returns-in_err-store-clause-fault g c =
    let is : c.from_residual-in_err-store.result ≡ Err (job.Program common.OutOfMemory) = search rules in
    rw is (call_failed c.args.source.base.value c.args.source.marks.now (g.U.UnreadDisk.holds c.args.source.file)
    c.args.asked.past c.args.asked.start common.OutOfMemory refl)

pub returns-in_err-check_reaches-clause-fault : goal.returns-in_err-check_reaches-clause-fault
returns-in_err-check_reaches-clause-fault g c =
    let disk = g.U.UnreadDisk in
    let base = c.args.source.base.value in
    let marks = c.args.source.marks.now in
    let past = c.args.asked.past in
    let start = c.args.asked.start in
    let file = g.U.Whole.Disk.seen c.finish-found.result.found in
    let kept = c.finish-found.result.kept in
    let why = c.in_err-check_reaches.field-0.0 in
    let is : c.from_residual-in_err-check_reaches.result ≡ Err why = search rules in
    let known : IsKnown (disk.holds c.args.source.file) file =
    subst (λ k. IsKnown k file) (c.in_ok-journal.ensures.known ∙ c.in-Ok.ensures.known) c.finish-found.ensures.known in
    let keeps : IsKept marks (recovered file) kept =
    subst (λ m. IsKept m (recovered file) kept) (c.in_ok-journal.ensures.marks ∙ c.in-Ok.ensures.marks)
    c.finish-found.ensures.kept in
    let store : c.write_all.new.store ≡ record { base = base; log = kept.commits.items } =
    store_of base c.in_ok-store.store.base c.in_ok-journal.journal.commits kept.commits.items c.write_all.new.store
    c.in_ok-journal.ensures.store (ap (λ (s : Warehouse). s.base) c.in_ok-store.ensures)
    (sym c.finish-found.ensures.commits) in
    let here : IsFileRefusal base marks (disk.holds c.args.source.file) past start why =
    too_far base marks (disk.holds c.args.source.file) file past start kept c.write_all.new.store c.len.result
    c.with-after.result why known keeps store c.len.ensures.count c.with-after.ensures
    c.in_err-check_reaches.ensures.fault in
    rw is here

pub returns-clause-written : goal.returns-clause-written
returns-clause-written g c =
    let contents = g.W.Write.contents in
    let a = contents c.args.out.now in
    let h = contents c.write_heads.new.out in
    let b = contents c.write_loaded.new.out in
    let e = contents c.write_all.new.out in
    let base = c.args.source.base.value in
    let past = c.args.asked.past in
    let start = c.args.asked.start in
    let file = g.U.Whole.Disk.seen c.finish-found.result.found in
    let kept = c.finish-found.result.kept in
    let held : c.in_ok-store.store.base ≡ base = ap (λ (s : Warehouse). s.base) c.in_ok-store.ensures in
    let commits = sym c.finish-found.ensures.commits in
    let store : c.write_all.new.store ≡ record { base = base; log = kept.commits.items } =
    store_of base c.in_ok-store.store.base c.in_ok-journal.journal.commits kept.commits.items c.write_all.new.store
    c.in_ok-journal.ensures.store held commits in
    let lines : c.lines.result.now ≡ base.lines = search rules in
    is_written c.args.asked.format base c.args.source.marks.now file past start kept c.write_all.new.store c.len.result c.with-after.result
    a h b e store
    (subst (λ m. IsKept m (recovered file) kept) (c.in_ok-journal.ensures.marks ∙ c.in-Ok.ensures.marks)
    c.finish-found.ensures.kept)
    c.soundness.ensures.legal c.len.ensures.count c.with-after.ensures c.in_ok-check_begins.ensures.begins
    c.in_ok-check_reaches.ensures.reaches
    c.in_ok-write_heads.ensures.written
    (subst (λ l. Appends h b (lines_text c.args.asked.format (asked_of start (signed past Came l)))) lines
    c.in_ok-write_loaded.ensures.written)
    (subst (λ l. Appends b e (lines_text c.args.asked.format (asked_of start (changes_behind past base.lines l)))) commits
    (subst (λ t. Appends b e (lines_text c.args.asked.format (asked_of start (changes_behind past t.lines
    c.in_ok-journal.journal.commits)))) held c.in_ok-journal.ensures.written))
