use Rattle.std.proofs.Common.{◌≡◌, ◌⊎◌, Err, List, rules, subst, ℕ}
use Rattle.std.specs.Prelude.{IfSome}
use Rattle.std.specs.Option.{option_map}
use Rattle.journal_opening.specs.declared.start.JournalStart.TheVariants.{Begins}
use Rattle.serve_command.proofs.JournalLaws.{each_refused, refused_base}
use Rattle.serve_command.proofs.ServedLaws.{each_over_journal, each_over_none}
use Rattle.serve_command.specs.Journals.{AreRefused}
use Rattle.serve_command.specs.Status.{serving_status}
use Rattle.ssb_files.specs.Loaded.{AreRefusedToServe}
use Rattle.ssb_files.specs.Standing.{MayNotStandToServe}
use Rattle.ssb_files.specs.declared.job.JobFault.TheVariants.{Program}
use Rattle.ssb_schema.specs.declared.table.Table.{Table}
use Rattle.ssb_text.specs.Layouts.{AreRows}
use Rattle.serve_command.proofs.runs.run_over.Goals as goal

pub returns-in_err-tables-in-Some-clause-refused : goal.returns-in_err-tables-in-Some-clause-refused
returns-in_err-tables-in-Some-clause-refused g c =
    let is : c.from_residual.result ≡ Err (Program c.in_err-tables-in-Some.field-0.0) = search rules in
    let here : serving_status (Program c.in_err-tables-in-Some.field-0.0) ≡ 1 → (texts : Table → List ℕ)
    → AreRows g.I.Read.remaining c.args.tables texts
    → AreRefused texts c.args.settings.standing.items
    (option_map (λ place. g.P.OpensJournal.holds place.file.now) c.args.place)
    (IfSome c.args.place (λ place. g.P.OpensJournal.is_taken place.file.now ⊎ g.P.OpensJournal.is_missing place.file.now))
    (IfSome c.args.place (λ place. g.P.OpensJournal.starts place.file.now ≡ Begins))
    = λ status texts are. refused_base texts c.args.settings.standing.items _ _ _
    (subst (λ s. AreRefusedToServe texts ⊎ MayNotStandToServe texts s) c.deref.ensures.value
    (c.in_err-tables-in-Some.ensures.refused status texts are)) in
    rw is here

pub returns-in_err-served-in-None-clause-refused : goal.returns-in_err-served-in-None-clause-refused
returns-in_err-served-in-None-clause-refused g c =
    let is : c.from_residual-in_err-served-in-None.result ≡ Err (Program c.in_err-served-in-None.field-0.0) =
    search rules in
    let here : serving_status (Program c.in_err-served-in-None.field-0.0) ≡ 1 → (texts : Table → List ℕ)
    → AreRows g.I.Read.remaining c.args.tables texts
    → AreRefused texts c.args.settings.standing.items
    (option_map (λ place. g.P.OpensJournal.holds place.file.now) c.args.place)
    (IfSome c.args.place (λ place. g.P.OpensJournal.is_taken place.file.now ⊎ g.P.OpensJournal.is_missing place.file.now))
    (IfSome c.args.place (λ place. g.P.OpensJournal.starts place.file.now ≡ Begins))
    = λ status texts are. refused_base texts c.args.settings.standing.items _ _ _
    (subst (λ s. AreRefusedToServe texts ⊎ MayNotStandToServe texts s) c.deref-in-None.ensures.value
    (c.in_err-served-in-None.ensures.refused status texts are)) in
    rw is here

pub returns-in-Some-clause-run : goal.returns-in-Some-clause-run
returns-in-Some-clause-run g c =
    rw c.in-Some.is (each_over_journal g.S.Speaker.spoken (λ run. run.left.items) (λ run. run.log) c.run_behind.result
    (AreRows g.I.Read.remaining c.args.tables) _ c.in_ok-tables-in-Some.tables.loaded
    c.in_ok-tables-in-Some.tables.marks c.args.speakers.items c.args.settings.dispatchers
    c.in_ok-tables-in-Some.ensures.base c.in_ok-tables-in-Some.ensures.marked c.in_ok-tables-in-Some.ensures.checked
    c.run_behind.ensures.run)

pub returns-in-Some-clause-refused : goal.returns-in-Some-clause-refused
returns-in-Some-clause-refused g c =
    rw c.in-Some.is (each_refused serving_status c.run_behind.result (AreRows g.I.Read.remaining c.args.tables)
    c.args.settings.standing.items _ _ _ c.in_ok-tables-in-Some.tables.loaded c.in_ok-tables-in-Some.tables.marks
    c.in_ok-tables-in-Some.ensures.base c.in_ok-tables-in-Some.ensures.marked c.in_ok-tables-in-Some.ensures.checked
    c.run_behind.ensures.refused)

pub returns-clause-run : goal.returns-clause-run
returns-clause-run g c =
    rw c.in-None.is (each_over_none g.S.Speaker.spoken (λ run. run.left.items) (λ run. run.log) c.run_without.result
    (AreRows g.I.Read.remaining c.args.tables) c.in_ok-served-in-None.served.loaded c.args.speakers.items
    c.args.settings.dispatchers c.in_ok-served-in-None.ensures.base c.run_without.ensures.run)
