use Rattle.std.proofs.Common.{◌≡◌, Err, inl, inr, rules, subst}
use Rattle.journal_opening.specs.declared.start.JournalStart.TheVariants.{Begins}
use Rattle.serve_command.specs.Journals.{GoesOnFrom, RefusesFile}
use Rattle.serve_command.proofs.runs.run_behind.Goals as goal

pub returns-in_err-file-clause-refused : goal.returns-in_err-file-clause-refused
returns-in_err-file-clause-refused g c =
    let is : c.from_residual.result ≡ Err c.in_err-file.field-0.0 = search rules in
    rw is (λ status. inl (c.in_err-file.ensures.refused status))

pub returns-in-Err-clause-refused : goal.returns-in-Err-clause-refused
returns-in-Err-clause-refused g c = λ status.
    inr (subst (λ known. RefusesFile c.args.tables.loaded c.args.tables.marks
    (g.P.OpensJournal.starts c.args.place.now.file.now ≡ Begins) known) c.in_ok-file.ensures.held
    (c.in-Err.ensures.refused status))

pub returns-clause-run : goal.returns-clause-run
returns-clause-run g c =
    subst (λ known. GoesOnFrom g.S.Speaker.spoken known c.args.tables.loaded c.args.tables.marks c.args.speakers.items
    c.args.dispatchers c.in-Ok.run'.left.items c.in-Ok.run'.log) c.in_ok-file.ensures.held c.in-Ok.ensures.served
