use Rattle.std.proofs.Common.{◌≡◌, Err, List, ℕ, ap, rules, subst}
use Rattle.ssb_files.specs.declared.job.JobFault.TheVariants.{Program}
use Rattle.ssb_schema.specs.declared.table.Table.{Table}
use Rattle.ssb_text.specs.Layouts.{AreRows}
use Rattle.export_command.specs.Histories.{AreTablesAt, IsHistoryRefusal, TellsSourceFault, files_of}
use Rattle.export_command.proofs.HistoryLaws.{history_of, opening_tells, refusal_tells}
use Rattle.export_command.proofs.history_source.read_source.Goals as goal

pub returns-in_err-loaded-clause-fault : goal.returns-in_err-loaded-clause-fault
returns-in_err-loaded-clause-fault g c =
    let place = g.P.OpensJournal in
    let source = c.args.source in
    let why = c.in_err-loaded.field-0.0 in
    let is : c.from_residual.result ≡ Err (Program why) = search rules in
    let here : (texts : Table → List ℕ) → AreRows g.I.Read.remaining (files_of source.tables source.layout) texts
    → TellsSourceFault texts (place.holds source.journal.now) (place.is_taken source.journal.now)
    (place.is_missing source.journal.now) source.moment.past source.moment.at (Program why)
    = λ texts are status. c.in_err-loaded.ensures.data status texts are in
    rw is here

pub returns-in-Err-clause-fault : goal.returns-in-Err-clause-fault
returns-in-Err-clause-fault g c = λ texts are.
    let place = g.P.OpensJournal in
    let source = c.args.source in
    opening_tells texts (place.holds source.journal.now) (place.is_taken source.journal.now)
    (place.is_missing source.journal.now) source.moment.past source.moment.at c.in-Err.error
    (λ same. c.in-Err.ensures.taken (ap Err same)) c.in-Err.ensures.missing

pub returns-in-Err-read_history-clause-fault : goal.returns-in-Err-read_history-clause-fault
returns-in-Err-read_history-clause-fault g c = λ texts are.
    let place = g.P.OpensJournal in
    let source = c.args.source in
    let held = c.in_ok-base.base.value in
    let marks = c.table_marks-marks.result in
    let why = c.in-Err-read_history.fault in
    refusal_tells texts (place.holds source.journal.now) (place.is_taken source.journal.now)
    (place.is_missing source.journal.now) source.moment.past source.moment.at c.in_ok-loaded.loaded.0 held marks why
    (c.in_ok-loaded.ensures.base texts are) c.table_marks-marks.ensures.marks
    (c.table_marks-marks.ensures.checksums texts (c.in_ok-loaded.ensures.checksums texts are)) c.in_ok-base.ensures.ok
    (subst (λ known. IsHistoryRefusal held marks known source.moment.past source.moment.at why) c.in-Ok.ensures.held
    c.in-Err-read_history.ensures.fault)

pub returns-clause-base : goal.returns-clause-base
returns-clause-base g c =
    let source = c.args.source in
    let held = c.in_ok-base.base.value in
    let marks = c.table_marks-marks.result in
    let read = c.in-Ok-read_history.read in
    history_of (AreRows g.I.Read.remaining (files_of source.tables source.layout))
    (g.P.OpensJournal.holds source.journal.now) source.moment.past source.moment.at c.in_ok-loaded.loaded.0 held marks
    read.tables c.in_ok-base-2.base read.after (λ texts are. c.in_ok-loaded.ensures.base texts are)
    c.table_marks-marks.ensures.marks
    (λ texts are. c.table_marks-marks.ensures.checksums texts (c.in_ok-loaded.ensures.checksums texts are))
    c.in_ok-base.ensures.ok c.in_ok-base-2.ensures
    (subst (λ known. AreTablesAt held marks known source.moment.past source.moment.at read.tables read.after)
    c.in-Ok.ensures.held c.in-Ok-read_history.ensures.tables)
