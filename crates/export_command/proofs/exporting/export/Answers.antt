use Rattle.std.proofs.Common.{◌≡◌, ◌∙◌, Err, List, ℕ, ap, arith, rules, subst, sym}
use Rattle.journal_opening.specs.Kept.{IsKnown}
use Rattle.journal_opening.specs.Marks.{AreMarks, HaveChecksums}
use Rattle.ssb_files.specs.declared.fault.Fault.TheVariants as common
use Rattle.ssb_files.specs.declared.job.JobFault.TheVariants.{Program}
use Rattle.ssb_schema.specs.declared.table.Table.{Table}
use Rattle.ssb_text.specs.Layouts.{AreRows}
use Rattle.export_command.specs.Exported.{IsJournalRefusal, TellsExportFault}
use Rattle.export_command.proofs.ExportLaws.{exports, file_fault_tells, find_fault_tells}
use Rattle.export_command.proofs.ExportLaws.{read_fault_tells}
use Rattle.export_command.proofs.exporting.export.Goals as goal

pub returns-in_err-folder-clause-fault : goal.returns-in_err-folder-clause-fault
returns-in_err-folder-clause-fault g c =
    let is : c.from_residual.result ≡ Err c.in_err-folder.field-0.0 = search rules in
    let here : (texts : Table → List ℕ) → AreRows g.I.Read.remaining c.args.tables texts
    → TellsExportFault texts (g.P.OpensJournal.holds c.args.place.now.journal.now)
    (g.P.OpensJournal.is_taken c.args.place.now.journal.now) (g.P.OpensJournal.is_missing c.args.place.now.journal.now)
    c.in_err-folder.field-0.0
    = λ texts are. find_fault_tells texts _ _ _ c.in_err-folder.field-0.0 c.in_err-folder.ensures.fault in
    rw is here

pub returns-in_err-read-clause-fault : goal.returns-in_err-read-clause-fault
returns-in_err-read-clause-fault g c =
    let is : c.from_residual-in_err-read.result ≡ Err (Program c.in_err-read.field-0.0) = search rules in
    let here : (texts : Table → List ℕ) → AreRows g.I.Read.remaining c.args.tables texts
    → TellsExportFault texts (g.P.OpensJournal.holds c.args.place.now.journal.now)
    (g.P.OpensJournal.is_taken c.args.place.now.journal.now) (g.P.OpensJournal.is_missing c.args.place.now.journal.now)
    (Program c.in_err-read.field-0.0)
    = λ texts are status. c.in_err-read.ensures.data status texts are in
    rw is here

pub returns-in_err-base-clause-fault : goal.returns-in_err-base-clause-fault
returns-in_err-base-clause-fault g c =
    let is : c.from_residual-in_err-base.result ≡ Err (Program common.OutOfMemory) = search rules in
    let here : (texts : Table → List ℕ) → AreRows g.I.Read.remaining c.args.tables texts
    → TellsExportFault texts (g.P.OpensJournal.holds c.args.place.now.journal.now)
    (g.P.OpensJournal.is_taken c.args.place.now.journal.now) (g.P.OpensJournal.is_missing c.args.place.now.journal.now)
    (Program common.OutOfMemory)
    = λ texts are status. absurd (omega (arith, status)) in
    rw is here

pub returns-in-Err-clause-fault : goal.returns-in-Err-clause-fault
returns-in-Err-clause-fault g c =
    λ texts are. file_fault_tells texts (g.P.OpensJournal.holds c.args.place.now.journal.now)
    (g.P.OpensJournal.is_taken c.args.place.now.journal.now) (g.P.OpensJournal.is_missing c.args.place.now.journal.now)
    c.in-Err.error
    (λ same. c.in-Err.ensures.taken (ap Err same)) c.in-Err.ensures.missing

pub returns-in-Ok-export_into-clause-exported : goal.returns-in-Ok-export_into-clause-exported
returns-in-Ok-export_into-clause-exported g c = λ texts are.
    let base = c.in_ok-read.read.0 in
    let read = c.in-Ok-read_journal.read in
    let marks = sym c.in-Ok-read_journal.ensures.marks in
    exports texts _ base read.base read.marks read.file _ (c.in_ok-read.ensures.base texts are)
    (subst (AreMarks base) marks c.table_marks-marks.ensures.marks)
    (subst (HaveChecksums texts) marks
    (c.table_marks-marks.ensures.checksums texts (c.in_ok-read.ensures.checksums texts are)))
    (subst (λ known. IsKnown known read.file) c.in-Ok.ensures.held c.in-Ok-read_journal.ensures.known)
    (c.in-Ok-read_journal.ensures.base ∙ c.in_ok-base.ensures.ok) c.in-Ok-export_into.ensures.exported

pub returns-in-Err-read_journal-clause-fault : goal.returns-in-Err-read_journal-clause-fault
returns-in-Err-read_journal-clause-fault g c = λ texts are.
    let fault = c.in-Err-read_journal.fault in
    let marks = c.table_marks-marks.result in
    read_fault_tells texts _ _ _ c.in_ok-read.read.0 c.in_ok-base.base.value marks fault
    (c.in_ok-read.ensures.base texts are) c.table_marks-marks.ensures.marks
    (c.table_marks-marks.ensures.checksums texts (c.in_ok-read.ensures.checksums texts are)) c.in_ok-base.ensures.ok
    (subst (λ known. IsJournalRefusal c.in_ok-base.base.value marks known fault) c.in-Ok.ensures.held
    c.in-Err-read_journal.ensures.fault)
