use Rattle.std.proofs.Common.{◌≡◌, ◌++◌, ◌∙◌, Err, append_assoc, ap, drop, false, length, rules, subst, sym, take}
use Rattle.std.proofs.lemmas.List.{take-append-drop}
use Rattle.std.specs.Prelude.{IsSome}
use Rattle.journal_opening.specs.declared.fault.OpeningFault.TheVariants as opening
use Rattle.row_store.specs.History.{Warehouse}
use Rattle.ssb_files.specs.declared.job.JobFault.TheVariants as job
use Rattle.ssb_journal.specs.Kept.{BeginsWithCommits}
use Rattle.ssb_journal.specs.Opening.{TellsOpenFault}
use Rattle.export_command.specs.Exported.{IsJournalRefusal}
use Rattle.export_command.specs.Histories.{IsBatchFault, first_of, reaches}
use Rattle.export_command.specs.declared.fault.ExportRefusal.TheVariants as refusal
use Rattle.export_command.proofs.ExportLaws.{refused_reading}
use Rattle.export_command.proofs.HistoryLaws.{all_made, batch_is, batch_tells, made_first}
use Rattle.export_command.proofs.replaying.replay_first.Goals as goal

pub returns-in-Err-clause-fault : goal.returns-in-Err-clause-fault
returns-in-Err-clause-fault g c =
    let disk = g.U.UnreadDisk in
    let file = c.in-Err.field-0-1 in
    refused_reading c.args.store.now.base c.args.journal.marks (disk.holds c.args.journal.unread) (disk.holds file)
    (disk.taken file) (disk.is_ended file) (job.Found (refusal.Journal (opening.Kept c.in-Err.fault)))
    (c.in-Err.ensures.known_err ∙ c.loop-next.invariant.known) (g.met.U.UnreadDisk.as_known file)
    (λ whole begins. subst (λ marks. TellsOpenFault marks whole c.in-Err.fault) c.loop-next.invariant.marks
    (c.in-Err.ensures.fault whole begins)) tt

pub returns-in_err-make_again-clause-fault : goal.returns-in_err-make_again-clause-fault
returns-in_err-make_again-clause-fault g c =
    let disk = g.U.UnreadDisk in
    let next = c.in-Ok.next.0 in
    let old = c.loop-next.journal.commits in
    let items = c.in-Some.commits.items in
    let count = c.next_count-count.result in
    let base = c.args.store.now.base in
    let marks = c.args.journal.marks in
    let known = disk.holds c.args.journal.unread in
    let why = c.in_err-make_again.field-0.0 in
    let front = old ++ take count items in
    let all : next.commits ≡ old ++ items = search rules in
    let some : IsSome c.in-Ok.next.1 = search rules in
    let split : next.commits ≡ front ++ drop count items =
    all ∙ ap (λ l. old ++ l) (sym (take-append-drop count items))
    ∙ sym (append_assoc old (take count items) (drop count items)) in
    let told : IsBatchFault base front why =
    subst (λ (store : Warehouse). IsBatchFault store.base (store.log ++ take count items) why) c.loop-next.invariant.store
    (subst (λ batch. IsBatchFault c.loop-next.store.base (c.loop-next.store.log ++ take count batch) why)
    c.deref.ensures.value c.in_err-make_again.ensures.fault) in
    let here : IsJournalRefusal base marks known why =
    refused_reading base marks known (disk.holds next.unread) (disk.taken next.unread) (disk.is_ended next.unread) why
    (c.in-Ok.ensures.known ∙ c.loop-next.invariant.known) (g.met.U.UnreadDisk.as_known next.unread)
    (λ whole begins. batch_tells base marks whole front (drop count items) why
    (subst (λ commits. BeginsWithCommits marks commits whole) split
    (subst (λ m. BeginsWithCommits m next.commits whole) c.loop-next.invariant.marks
    (c.in-Ok.ensures.kept some whole begins))) told) (batch_is base front why told) in
    let is : c.from_residual.result ≡ Err why = search rules in
    rw is here

pub returns-then-is_reached-clause-store : goal.returns-then-is_reached-clause-store
returns-then-is_reached-clause-store g c =
    let old = c.loop-next.journal.commits in
    let items = c.in-Some.commits.items in
    let all : c.in-Ok.next.0.commits ≡ old ++ items = search rules in
    let many : c.len-in-loop-next.result ≡ length items = search rules in
    made_first c.args.most c.args.store.now.base c.loop-next.store c.make_again.new.store old c.in-Ok.next.0.commits
    c.deref.result.now items c.next_count-count.result c.len.result c.len-in-loop-next.result c.loop-next.invariant.store
    all c.deref.ensures.value c.len.ensures.count many c.loop-next.invariant.within c.next_count-count.ensures.count
    c.in_ok-make_again.ensures.store

pub loop-next-preserved : goal.loop-next-preserved
loop-next-preserved g c =
    let base = c.args.store.now.base in
    let most = c.args.most in
    let old = c.loop-next.journal.commits in
    let items = c.in-Some.commits.items in
    let next = c.in-Ok.next.0.commits in
    let all : next ≡ old ++ items = search rules in
    let many : c.len-in-loop-next.result ≡ length items = search rules in
    let made : c.make_again.new.store ≡ record { base = base; log = first_of most next } =
    made_first most base c.loop-next.store c.make_again.new.store old next c.deref.result.now items
    c.next_count-count.result c.len.result c.len-in-loop-next.result c.loop-next.invariant.store all
    c.deref.ensures.value c.len.ensures.count many c.loop-next.invariant.within c.next_count-count.ensures.count
    c.in_ok-make_again.ensures.store in
    let so_many : c.len-in-loop-next-2.result ≡ length (first_of most next) =
    c.len-in-loop-next-2.ensures.count ∙ ap (λ (s : Warehouse). length s.log) made in
    let not_yet : reaches most c.len-in-loop-next-2.result ≡ false = sym c.is_reached.ensures ∙ c.if-is_reached.false in
    let fewer : reaches most (length (first_of most next)) ≡ false =
    subst (λ n. reaches most n ≡ false) so_many not_yet in
    let whole = all_made most next fewer in
    record {
      store = made ∙ (λ i. record { base = base; log = whole.0 i });
      orders = c.in_ok-make_again.ensures.orders;
      marks = search rules;
      known = search rules;
      within = whole.1;
    }
