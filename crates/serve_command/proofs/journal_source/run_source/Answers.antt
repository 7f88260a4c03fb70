use Rattle.std.proofs.Common.{◌≡◌, ◌∙◌, ℕ, None, subst}
use Rattle.journal.specs.Groups.{recovered}
use Rattle.journal_opening.specs.Kept.{HasCommits, IsKnown}
use Rattle.journal_opening.specs.declared.start.JournalStart.TheVariants.{Begins}
use Rattle.serve_command.specs.JournaledRun.{IsJournaledRun}
use Rattle.serve_command.specs.LeftFiles.{IsLeftFile, KeepsFound, KeepsTornBytes}
use Rattle.serve_command.specs.Journals.{RefusesFile}
use Rattle.serve_command.specs.Remade.{IsNotRemade}
use Rattle.serve_command.specs.declared.fault.ServeRefusal.TheVariants.{Journal}
use Rattle.ssb_base.specs.Base.{Tables}
use Rattle.ssb_journal.specs.Opening.{IsKept}
use Rattle.serve_command.proofs.JournalLaws.{found_has_torn, found_is_kept, has_kept}
use Rattle.serve_command.proofs.RemadeLaws.{refused_reading, refused_remade}
use Rattle.serve_command.proofs.StatusLaws.{unserved_not_refused}
use Rattle.serve_command.proofs.journal_source.run_source.Goals as goal

pub returns-in-Err-clause-refused : goal.returns-in-Err-clause-refused
returns-in-Err-clause-refused g c = λ status.
    let source = c.args.source in
    subst (λ how. RefusesFile source.loaded source.marks.now (how ≡ Begins) (g.U.UnreadDisk.holds source.file))
    c.start.ensures
    (refused_remade source.loaded source.marks.now c.start.result c.path.result.now c.args.dispatchers _
    (Journal c.in-Err.fault)
    (refused_reading source.loaded source.marks.now c.start.result c.path.result.now c.args.dispatchers _ _ _ _
    c.in-Err.fault c.in-Err.ensures.known_err (g.met.U.UnreadDisk.as_known c.in-Err.file)
    c.in-Err.ensures.fault) status)

pub returns-in-Err-remake_journal-clause-refused : goal.returns-in-Err-remake_journal-clause-refused
returns-in-Err-remake_journal-clause-refused g c = λ status.
    let source = c.args.source in
    let started = c.in-Ok.started in
    let known = g.U.UnreadDisk.holds source.file in
    let why = c.in-Err-remake_journal.field-0.refusal in
    subst (λ how. RefusesFile source.loaded source.marks.now (how ≡ Begins) known)
    (c.in-Ok.ensures.start.0 ∙ c.start.ensures)
    (refused_remade source.loaded source.marks.now started.start started.path.now c.args.dispatchers known why
    (subst (λ k. IsNotRemade source.loaded source.marks.now started.start started.path.now c.args.dispatchers k why)
    c.in-Ok.ensures.known c.in-Err-remake_journal.ensures.fault) status)

pub returns-in-Err-run_journaled-clause-refused : goal.returns-in-Err-run_journaled-clause-refused
returns-in-Err-run_journaled-clause-refused g c = λ status.
    absurd (unserved_not_refused c.in-Err-run_journaled.field-0.fault c.in-Err-run_journaled.ensures.fault status)

pub returns-in-Ok-run_journaled-clause-served : goal.returns-in-Ok-run_journaled-clause-served
returns-in-Ok-run_journaled-clause-served g c =
    let source = c.args.source in
    let remade = c.in-Ok-remake_journal.remade in
    let file = g.U.Whole.Disk.seen remade.opened.found in
    let kept = remade.opened.kept in
    let run = c.in-Ok-run_journaled.run' in
    record {
      file = file;
      is_file = subst (λ k. IsKnown k file) c.in-Ok.ensures.known c.in-Ok-remake_journal.ensures.known;
      goes_on = record {
        kept = kept.commits.items;
        has = has_kept source.marks.now file kept
            (subst (λ m. IsKept m (recovered file) kept) c.in-Ok-remake_journal.ensures.marks
            c.in-Ok-remake_journal.ensures.kept);
        run = subst (λ (n : ℕ). IsJournaledRun g.S.Speaker.spoken source.loaded kept.commits.items c.args.speakers.items n
            run.left.items run.log) c.in-Ok-remake_journal.ensures.dispatchers
            (subst (λ (b : Tables). IsJournaledRun g.S.Speaker.spoken b kept.commits.items c.args.speakers.items
            remade.server.dispatchers run.left.items run.log) c.in-Ok-remake_journal.ensures.base
            c.in-Ok-run_journaled.ensures.served);
      };
    }

pub returns-in-Ok-run_journaled-clause-begun : goal.returns-in-Ok-run_journaled-clause-begun
returns-in-Ok-run_journaled-clause-begun g c = λ begins.
    let source = c.args.source in
    let opened = c.in-Ok-remake_journal.remade.opened in
    let file = g.U.Whole.Disk.seen opened.found in
    record {
      file = file;
      is_file = subst (λ k. IsKnown k file) c.in-Ok.ensures.known c.in-Ok-remake_journal.ensures.known;
      has = subst (λ l. HasCommits source.marks.now l file)
          (c.in-Ok-remake_journal.ensures.new (c.in-Ok.ensures.start.0 ∙ (c.start.ensures ∙ begins)))
          (has_kept source.marks.now file opened.kept
          (subst (λ m. IsKept m (recovered file) opened.kept) c.in-Ok-remake_journal.ensures.marks
          c.in-Ok-remake_journal.ensures.kept));
    }

pub returns-in-Err-remake_journal-clause-any_moment_err : goal.returns-in-Err-remake_journal-clause-any_moment_err
returns-in-Err-remake_journal-clause-any_moment_err g c =
    let marks = c.args.source.marks.now in
    subst
    (λ known. IsLeftFile (λ file. g.U.UnreadDisk.holds file ≡ known) (KeepsFound g.U.Whole.Disk.seen g.U.Whole.Disk.moment
    g.U.Whole.Disk.left_since marks known) c.in-Err-remake_journal.field-0.file) c.in-Ok.ensures.known
    (found_is_kept _ g.U.Whole.Disk.seen g.U.Whole.Disk.moment g.U.Whole.Disk.left_since marks _
    c.in-Err-remake_journal.field-0.file c.in-Err-remake_journal.ensures.file)

pub returns-in-Err-remake_journal-clause-torn_err : goal.returns-in-Err-remake_journal-clause-torn_err
returns-in-Err-remake_journal-clause-torn_err g c =
    let marks = c.args.source.marks.now in
    subst
    (λ known. IsLeftFile (λ file. g.U.UnreadDisk.holds file ≡ known) (KeepsTornBytes g.U.Whole.Disk.seen
    g.P.KeepsTorn.bytes marks known None) c.in-Err-remake_journal.field-0.file) c.in-Ok.ensures.known
    (found_has_torn _ g.U.Whole.Disk.seen g.P.KeepsTorn.bytes marks _ c.in-Err-remake_journal.field-0.file
    c.in-Err-remake_journal.ensures.file)

pub returns-in-Ok-run_journaled-clause-any_moment : goal.returns-in-Ok-run_journaled-clause-any_moment
returns-in-Ok-run_journaled-clause-any_moment g c =
    let source = c.args.source in
    let remade = c.in-Ok-remake_journal.remade in
    let opened = remade.opened in
    let file = g.U.Whole.Disk.seen opened.found in record {
      found = opened.found;
      commits = opened.kept.commits.items;
      is = record {
        is_file = subst (λ k. IsKnown k file) c.in-Ok.ensures.known c.in-Ok-remake_journal.ensures.known;
        has = has_kept source.marks.now file opened.kept
            (subst (λ m. IsKept m (recovered file) opened.kept) c.in-Ok-remake_journal.ensures.marks
            c.in-Ok-remake_journal.ensures.kept);
      };
      any_moment = c.in-Ok-run_journaled.ensures.any_moment;
    }

pub returns-in-Err-run_journaled-clause-any_moment_err : goal.returns-in-Err-run_journaled-clause-any_moment_err
returns-in-Err-run_journaled-clause-any_moment_err g c =
    let source = c.args.source in
    let remade = c.in-Ok-remake_journal.remade in
    let opened = remade.opened in
    let file = g.U.Whole.Disk.seen opened.found in record {
      found = opened.found;
      commits = opened.kept.commits.items;
      is = record {
        is_file = subst (λ k. IsKnown k file) c.in-Ok.ensures.known c.in-Ok-remake_journal.ensures.known;
        has = has_kept source.marks.now file opened.kept
            (subst (λ m. IsKept m (recovered file) opened.kept) c.in-Ok-remake_journal.ensures.marks
            c.in-Ok-remake_journal.ensures.kept);
      };
      kept = c.in-Err-run_journaled.ensures.any_moment_err;
    }

pub returns-in-Ok-run_journaled-clause-torn : goal.returns-in-Ok-run_journaled-clause-torn
returns-in-Ok-run_journaled-clause-torn g c =
    let source = c.args.source in
    let remade = c.in-Ok-remake_journal.remade in
    let opened = remade.opened in
    let file = g.U.Whole.Disk.seen opened.found in record {
      found = opened.found;
      commits = opened.kept.commits.items;
      is = record {
        is_file = subst (λ k. IsKnown k file) c.in-Ok.ensures.known c.in-Ok-remake_journal.ensures.known;
        has = has_kept source.marks.now file opened.kept
            (subst (λ m. IsKept m (recovered file) opened.kept) c.in-Ok-remake_journal.ensures.marks
            c.in-Ok-remake_journal.ensures.kept);
      };
      kept = c.in-Ok-run_journaled.ensures.torn;
    }

pub returns-in-Err-run_journaled-clause-torn_err : goal.returns-in-Err-run_journaled-clause-torn_err
returns-in-Err-run_journaled-clause-torn_err g c =
    let source = c.args.source in
    let remade = c.in-Ok-remake_journal.remade in
    let opened = remade.opened in
    let file = g.U.Whole.Disk.seen opened.found in record {
      found = opened.found;
      commits = opened.kept.commits.items;
      is = record {
        is_file = subst (λ k. IsKnown k file) c.in-Ok.ensures.known c.in-Ok-remake_journal.ensures.known;
        has = has_kept source.marks.now file opened.kept
            (subst (λ m. IsKept m (recovered file) opened.kept) c.in-Ok-remake_journal.ensures.marks
            c.in-Ok-remake_journal.ensures.kept);
      };
      kept = c.in-Err-run_journaled.ensures.torn_err;
    }
