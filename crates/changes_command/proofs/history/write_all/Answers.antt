use Rattle.std.proofs.Common.{◌≡◌, ◌+◌, ◌++◌, ◌∙◌, Err, rules, ap, length, refl, subst, sym}
use Rattle.std.specs.Prelude.{IsSome}
use Rattle.std.specs.Io.KnownBytes.{Appends}
use Rattle.row_store.specs.History.{Warehouse, lines_after}
use Rattle.journal_opening.specs.declared.fault.OpeningFault.TheVariants as opening
use Rattle.ssb_files.proofs.FlushedLaws.{appended_kept}
use Rattle.ssb_files.specs.declared.fault.Fault.TheVariants as common
use Rattle.ssb_files.specs.declared.job.JobFault.TheVariants as job
use Rattle.ssb_journal.specs.Kept.{BeginsWithCommits}
use Rattle.ssb_journal.specs.Opening.{TellsOpenFault}
use Rattle.ssb_text.proofs.WrittenLaws.{appends_both}
use Rattle.changes_command.specs.Signed.{asked_of, changes_behind}
use Rattle.changes_command.specs.SignedText.{lines_text}
use Rattle.changes_command.specs.Written.{IsCommitsFault, IsFileRefusal}
use Rattle.changes_command.specs.declared.fault.ChangesRefusal.TheVariants as refusal
use Rattle.changes_command.proofs.AskedLaws.{text_behind}
use Rattle.changes_command.proofs.FaultLaws.{call_failed, of_commits, refused_reading}
use Rattle.changes_command.proofs.history.write_all.Goals as goal

pub returns-in-Err-clause-fault : goal.returns-in-Err-clause-fault
returns-in-Err-clause-fault g c =
    let disk = g.U.UnreadDisk in
    let file = c.in-Err.field-0-1 in
    refused_reading c.args.store.now.base c.args.reading.journal.marks (disk.holds c.args.reading.journal.unread)
    (disk.holds file) (disk.taken file) (disk.is_ended file) c.args.asked.past c.args.asked.start
    (job.Found (refusal.Journal (opening.Kept c.in-Err.fault)))
    (c.in-Err.ensures.known_err ∙ c.loop-next.invariant.known) (g.met.U.UnreadDisk.as_known file)
    (λ whole begins. subst (λ marks. TellsOpenFault marks whole c.in-Err.fault) c.loop-next.invariant.marks
    (c.in-Err.ensures.fault whole begins))

pub returns-in_err-write_commits-clause-fault : goal.returns-in_err-write_commits-clause-fault
returns-in_err-write_commits-clause-fault g c =
    let disk = g.U.UnreadDisk in
    let next = c.in-Ok.next.0 in
    let old = c.loop-next.journal in
    let why = c.in_err-write_commits.field-0.0 in
    let base = c.args.store.now.base in
    let marks = c.args.reading.journal.marks in
    let known = disk.holds c.args.reading.journal.unread in
    let past = c.args.asked.past in
    let start = c.args.asked.start in
    let all : next.commits ≡ old.commits ++ c.in-Some.commits.items = search rules in
    let some : IsSome c.in-Ok.next.1 = search rules in
    let log : c.loop-next.store.log ++ c.deref.result.now ≡ next.commits =
    ap (λ (store : Warehouse). store.log ++ c.deref.result.now) c.loop-next.invariant.store
    ∙ ap (λ batch. old.commits ++ batch) c.deref.ensures.value ∙ sym all in
    let told : IsCommitsFault base next.commits why =
    subst (λ b. IsCommitsFault b next.commits why)
    (ap (λ (store : Warehouse). store.base) c.loop-next.invariant.store)
    (subst (λ commits. IsCommitsFault c.loop-next.store.base commits why) log c.in_err-write_commits.ensures.fault) in
    let is : c.from_residual.result ≡ Err why = search rules in
    let here : IsFileRefusal base marks known past start why =
    refused_reading base marks known (disk.holds next.unread) (disk.taken next.unread) (disk.is_ended next.unread) past
    start why (c.in-Ok.ensures.known ∙ c.loop-next.invariant.known) (g.met.U.UnreadDisk.as_known next.unread)
    (λ whole begins. of_commits base marks whole past start next.commits why
    (subst (λ m. BeginsWithCommits m next.commits whole) c.loop-next.invariant.marks
    (c.in-Ok.ensures.kept some whole begins)) told) in
    rw is here

pub returns-in_err-hand_on-clause-fault : goal.returns-in_err-hand_on-clause-fault
returns-in_err-hand_on-clause-fault g c =
    let base = c.args.store.now.base in
    let marks = c.args.reading.journal.marks in
    let known = g.U.UnreadDisk.holds c.args.reading.journal.unread in
    let past = c.args.asked.past in
    let start = c.args.asked.start in
    let is : c.from_residual-in_err-hand_on.result ≡ Err c.in_err-hand_on.field-0.0 = search rules in
    let here : IsFileRefusal base marks known past start c.in_err-hand_on.field-0.0 =
    subst (IsFileRefusal base marks known past start) (sym c.in_err-hand_on.ensures.fault)
    (call_failed base marks known past start common.WriteFailed refl) in
    rw is here

pub loop-next-preserved : goal.loop-next-preserved
loop-next-preserved g c =
    let contents = g.W.Write.contents in
    let a = contents c.args.out.now in
    let b = contents c.loop-next.out in
    let e = contents c.write_commits.new.out in
    let h = contents c.hand_on.new.out in
    let next = c.in-Ok.next.0 in
    let old = c.loop-next.journal in
    let base = c.args.store.now.base in
    let past = c.args.asked.past in
    let start = c.args.asked.start in
    let items = c.in-Some.commits.items in
    let all : next.commits ≡ old.commits ++ items = search rules in
    let more : Appends b e (lines_text c.args.asked.format (asked_of start (changes_behind (past + length old.commits)
    (lines_after base old.commits) items)))
    = subst (λ (store : Warehouse). Appends b e (lines_text c.args.asked.format (asked_of start (changes_behind
    (past + length store.log) (lines_after store.base store.log) items)))) c.loop-next.invariant.store
    (subst (λ batch. Appends b e (lines_text c.args.asked.format (asked_of start (changes_behind (past + length c.loop-next.store.log)
    (lines_after c.loop-next.store.base c.loop-next.store.log) batch)))) c.deref.ensures.value
    c.in_ok-write_commits.ensures.written) in
    record {
      written = appended_kept a e h (lines_text c.args.asked.format (asked_of start (changes_behind past base.lines next.commits)))
          (subst (λ commits. Appends a e (lines_text c.args.asked.format (asked_of start (changes_behind past base.lines commits))))
          (sym all) (subst (Appends a e) (sym (text_behind c.args.asked.format start past base old.commits items))
          (appends_both a b e _ _ c.loop-next.invariant.written more))) c.hand_on.ensures.kept;
      store = search rules;
      marks = search rules;
      known = search rules;
    }
