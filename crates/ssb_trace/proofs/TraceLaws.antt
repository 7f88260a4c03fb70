-- The text of a trace spells it, and no other.
use Rattle.std.proofs.Common.{◌≤◌, List, [], ◌∷◌, length, sym, subst, arith}
use Rattle.std.specs.List.{AllByRecursion}
use Rattle.row_store.specs.History.{CommitRecord}
use Rattle.ssb_audit.specs.declared.trace.Told.{Told}
use Rattle.ssb_audit.specs.declared.trace.Trace.{Trace}
use Rattle.ssb_text.specs.Records.{HasRecords}
use Rattle.ssb_script.specs.Requests.{IsWholeRequest, Refresh}
use Rattle.ssb_trace.specs.TraceText.{commit_text, told_text, trace_text}
use Rattle.ssb_trace.specs.Entries.{lines_of_commit, lines_of_told}
use Rattle.ssb_trace.proofs.InOrderLaws.{spells_in_order}
use Rattle.ssb_trace.proofs.OneReadingLaws.{one_reading}
use Rattle.ssb_trace.specs.Allowed.{IsAllowed, IsAllowedCommit, IsAllowedTold, lines_of_trace}
use Rattle.ssb_trace.specs.RoundTrip.{TextSpellsItsTrace, TextSpellsNoOther}
use Rattle.ssb_trace.proofs.CommittedLaws.{written_commit}
use Rattle.ssb_text.proofs.RecordTextLaws.{has_records}
use Rattle.ssb_trace.proofs.RowLaws.{written_told}
use Rattle.ssb_trace.proofs.WrittenLaws.{Written, as_many, written_both, written_each}

each-commit : (commits : List CommitRecord) → AllByRecursion IsAllowedCommit commits
    → AllByRecursion (λ commit. Written (commit_text commit) (lines_of_commit commit)) commits
each-commit [] all = tt
each-commit (commit ∷ commits) all = (written_commit commit all.0, each-commit commits all.1)

each-told : (answers : List Told) → AllByRecursion IsAllowedTold answers
    → AllByRecursion (λ told. Written (told_text told) (lines_of_told told)) answers
each-told [] all = tt
each-told (told ∷ answers) all = (written_told told all.0, each-told answers all.1)

each-whole : (commits : List CommitRecord) → AllByRecursion IsAllowedCommit commits
    → AllByRecursion (λ commit. IsWholeRequest (Refresh commit.actions)) commits
each-whole [] all = tt
each-whole (commit ∷ commits) all = (all.0.whole, each-whole commits all.1)

written-trace : (trace : Trace) → IsAllowed trace → Written (trace_text trace) (lines_of_trace trace)
written-trace trace allowed = grind (arith, written_both, written_each, each-commit, each-told)

pub spells_its_trace : TextSpellsItsTrace
spells_its_trace trace most allowed few =
    let written = written-trace trace allowed in
    let all : HasRecords (trace_text trace) written.records =
    subst (λ text. HasRecords text written.records) (sym written.written)
    (has_records written.records written.readable) in
    let bound : length written.records ≤ most = subst (λ n. n ≤ most)
    (sym (as_many written.records (lines_of_trace trace) written.said)) few in
    spells_in_order most (trace_text trace) written.records trace all bound written.said
    (each-whole trace.commits allowed.commits)

-- a bound that is enough
pub spells_no_other : TextSpellsNoOther
spells_no_other trace other most allowed spelled =
    one_reading (trace_text trace) most (length (lines_of_trace trace)) other trace spelled
    (spells_its_trace trace (length (lines_of_trace trace)) allowed (omega arith))
