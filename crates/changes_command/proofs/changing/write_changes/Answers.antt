use Rattle.std.proofs.Common.{◌≡◌, Err, List, ℕ, arith, rules, subst, sym}
use Rattle.journal_opening.specs.Kept.{IsKnown}
use Rattle.ssb_files.specs.declared.job.JobFault.TheVariants.{Program}
use Rattle.ssb_schema.specs.declared.table.Table.{Table}
use Rattle.ssb_text.specs.Layouts.{AreRows}
use Rattle.changes_command.specs.Written.{IsFileRefusal, TellsChangesFault}
use Rattle.changes_command.proofs.FaultLaws.{read_fault_tells}
use Rattle.changes_command.proofs.HistoryLaws.{changes_of}
use Rattle.changes_command.proofs.changing.write_changes.Goals as goal

pub returns-in_err-read-clause-fault : goal.returns-in_err-read-clause-fault
returns-in_err-read-clause-fault g c =
    let opens = g.P.OpensJournal in
    let place = c.args.place.now in
    let is : c.from_residual.result ≡ Err (Program c.in_err-read.field-0.0) = search rules in
    let here : (texts : Table → List ℕ) → AreRows g.I.Read.remaining c.args.tables texts
    → TellsChangesFault texts (opens.holds place.journal.now) (opens.is_taken place.journal.now)
    (opens.is_missing place.journal.now) place.asked.past place.asked.start (Program c.in_err-read.field-0.0)
    = λ texts are status. c.in_err-read.ensures.data status texts are in
    rw is here

pub returns-in_err-hand_on-in-Ok-write_history-clause-fault : goal.returns-in_err-hand_on-in-Ok-write_history-clause-fault
returns-in_err-hand_on-in-Ok-write_history-clause-fault g c =
    let opens = g.P.OpensJournal in
    let place = c.args.place.now in
    let why = c.in_err-hand_on-in-Ok-write_history.field-0.0 in
    let is : c.from_residual-in_err-hand_on-in-Ok-write_history.result ≡ Err why = search rules in
    let here : (texts : Table → List ℕ) → AreRows g.I.Read.remaining c.args.tables texts
    → TellsChangesFault texts (opens.holds place.journal.now) (opens.is_taken place.journal.now)
    (opens.is_missing place.journal.now) place.asked.past place.asked.start why
    = λ texts are. subst (TellsChangesFault texts (opens.holds place.journal.now) (opens.is_taken place.journal.now)
    (opens.is_missing place.journal.now) place.asked.past place.asked.start)
    (sym c.in_err-hand_on-in-Ok-write_history.ensures.fault) (λ one. absurd (omega (arith, one))) in
    rw is here

pub returns-in_ok-hand_on-in-Ok-write_history-clause-written :
    goal.returns-in_ok-hand_on-in-Ok-write_history-clause-written
returns-in_ok-hand_on-in-Ok-write_history-clause-written g c = λ texts are.
    let contents = g.W.Write.contents in
    let place = c.args.place.now in
    let read = c.in-Ok-write_history.read in
    let marks = c.table_marks-marks.result in
    changes_of place.asked.format texts (g.P.OpensJournal.holds place.journal.now) c.in_ok-read.read.0 c.in_ok-base.base.value marks
    (g.P.Disk.Disk.seen read.found) place.asked.past place.asked.start read.after (contents c.args.out.now)
    (contents c.write_history.new.out) (contents c.hand_on.new.out) (c.in_ok-read.ensures.base texts are)
    c.table_marks-marks.ensures.marks
    (c.table_marks-marks.ensures.checksums texts (c.in_ok-read.ensures.checksums texts are))
    (subst (λ known. IsKnown known (g.P.Disk.Disk.seen read.found)) c.in-Ok.ensures.held
    c.in-Ok-write_history.ensures.known)
    c.in_ok-base.ensures.ok c.in-Ok-write_history.ensures.written c.hand_on.ensures.kept

pub returns-in-Err-write_history-clause-fault : goal.returns-in-Err-write_history-clause-fault
returns-in-Err-write_history-clause-fault g c = λ texts are.
    let opens = g.P.OpensJournal in
    let place = c.args.place.now in
    let base = c.in_ok-base.base.value in
    let fault = c.in-Err-write_history.fault in
    let marks = c.table_marks-marks.result in
    read_fault_tells texts (opens.holds place.journal.now) (opens.is_taken place.journal.now)
    (opens.is_missing place.journal.now) c.in_ok-read.read.0 base marks place.asked.past place.asked.start fault
    (c.in_ok-read.ensures.base texts are) c.table_marks-marks.ensures.marks
    (c.table_marks-marks.ensures.checksums texts (c.in_ok-read.ensures.checksums texts are)) c.in_ok-base.ensures.ok
    (subst (λ known. IsFileRefusal base marks known place.asked.past place.asked.start fault) c.in-Ok.ensures.held
    c.in-Err-write_history.ensures.fault)
