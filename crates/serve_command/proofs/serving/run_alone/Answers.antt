use Rattle.std.proofs.Common.{◌≡◌, ◌⊎◌, Err, List, ap, length, arith, rules, ℕ}
use Rattle.std.specs.Prelude.{IfSome, slice_get, true}
use Rattle.std.specs.Option.{option_map}
use Rattle.journal_opening.specs.declared.start.JournalStart.TheVariants.{Begins}
use Rattle.serve_command.proofs.JournalLaws.{told_alone}
use Rattle.serve_command.proofs.ServedLaws.{ended_alone, first_pushed, is_alone, only_popped}
use Rattle.serve_command.specs.Journals.{AreRefused}
use Rattle.serve_command.specs.Status.{serving_status}
use Rattle.ssb_files.specs.declared.fault.Fault.TheVariants as common
use Rattle.ssb_files.specs.declared.job.JobFault.TheVariants.{Program}
use Rattle.ssb_serving.proofs.PlaceLaws.{all_at}
use Rattle.ssb_schema.specs.declared.table.Table.{Table}
use Rattle.ssb_text.specs.Layouts.{AreRows}
use Rattle.serve_command.proofs.serving.run_alone.Goals as goal

pub returns-in_err-push-clause-refused : goal.returns-in_err-push-clause-refused
returns-in_err-push-clause-refused g c =
    let is : c.from_residual.result ≡ Err (Program common.OutOfMemory) = search rules in
    let here : serving_status (Program common.OutOfMemory) ≡ 1 → (texts : Table → List ℕ)
    → AreRows g.I.Read.remaining c.args.tables texts
    → AreRefused texts c.args.settings.standing.items
    (option_map (λ place. g.P.OpensJournal.holds place.file.now) c.args.place)
    (IfSome c.args.place (λ place. g.P.OpensJournal.is_taken place.file.now ⊎ g.P.OpensJournal.is_missing place.file.now))
    (IfSome c.args.place (λ place. g.P.OpensJournal.starts place.file.now ≡ Begins))
    = λ status texts are. absurd (omega (arith, status)) in
    rw is here

pub returns-in_err-run-clause-refused : goal.returns-in_err-run-clause-refused
returns-in_err-run-clause-refused g c =
    let is : c.from_residual-in_err-run.result ≡ Err c.in_err-run.field-0.0 = search rules in
    rw is c.in_err-run.ensures.refused

pub returns-clause-took : goal.returns-clause-took
returns-clause-took g c = λ none.
    let count : length c.in_ok-run.run'.left.items ≡ 1 = omega (
      arith,
      c.in_ok-run.run'.left.ok.0,
      c.in_ok-run.ensures.left,
      c.in_ok-push.ensures.len,
      c.new-speakers.ensures.len,
    ) in
    let popped = only_popped _ _ _ c.in-Some.ensures.items count in
    all_at (λ one. one.took_refreshes ≡ true) _ 0 _ (c.in_ok-run.ensures.took none)
    (ap (λ xs. slice_get xs 0) popped)

pub returns-clause-ended : goal.returns-clause-ended
returns-clause-ended g c = λ texts are.
    let pushed = first_pushed _ _ _ c.new-speakers.ensures.items c.in_ok-push.ensures.items in
    let count : length c.in_ok-run.run'.left.items ≡ 1 = omega (
      arith,
      c.in_ok-run.run'.left.ok.0,
      c.in_ok-run.ensures.left,
      c.in_ok-push.ensures.len,
      c.new-speakers.ensures.len,
    ) in
    let popped = only_popped _ _ _ c.in-Some.ensures.items count in
    let alone = is_alone _ _ texts _ _ _ _ _ _ (c.in_ok-run.ensures.run texts are) pushed popped in
    ended_alone _ _ _ _ texts _ _ _ _ _ _ _ _ _ _ alone alone.by.spoken
    (told_alone g.P.Disk.Disk.may_leave g.P.Disk.Disk.seen (λ one. one.told) c.in_ok-run.run'.kept _ _ _
    c.in_ok-run.ensures.kept c.in_ok-run.ensures.told popped)
