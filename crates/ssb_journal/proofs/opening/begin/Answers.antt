use Rattle.std.proofs.Common.{◌≡◌, [], sym, ◌∙◌, inl, subst, rules}
use Rattle.journal.specs.Disk.{LeavesOnly}
use Rattle.journal.specs.Groups.{recovered, IsBeforeOrAfter, IsAppending}
use Rattle.journal.specs.declared.disk.DiskError.{DiskError}
use Rattle.journal.proofs.MomentLaws.{then_leaves}
use Rattle.ssb_journal.specs.Kept.{IsAsItWasOrNew}
use Rattle.ssb_journal.specs.Texts.{IsNewJournal}
use Rattle.ssb_journal.proofs.KeptLaws.{if_ok, if_err}
use Rattle.ssb_journal.proofs.NewLaws.{mended, appended, as_it_was_or_new, if_both_ok, if_both_err, err_is}
use Rattle.ssb_journal.proofs.opening.begin.Goals as goal

-- where the mend fails
pub returns-in_err-journal-clause-new_journal_err : goal.returns-in_err-journal-clause-new_journal_err
returns-in_err-journal-clause-new_journal_err g c is_new begins =
    err_is c.from_residual.result c.in_err-journal.field-0.0 (λ (e : DiskError × g.row.D.Denot). LeavesOnly g.D.Disk.moment g.D.Disk.left_since c.args.found e.1 (IsNewJournal c.args.marks.now)) c.from_residual.ensures
    (mended g.D.Disk.moment g.D.Disk.left_since c.args.marks.now c.args.found c.in_err-journal.field-0.0.1 (g.D.Disk.seen c.args.found) (c.requires.new is_new) begins c.in_err-journal.ensures.any_moment_err c.in_err-journal.ensures.torn_err)

pub returns-in-Ok-clause-new_journal : goal.returns-in-Ok-clause-new_journal
returns-in-Ok-clause-new_journal g c is_new begins =
    let moment = g.D.Disk.moment in
    let left_since = g.D.Disk.left_since in
    let marks = c.args.marks.now in
    let mid = c.in_ok-journal.journal in
    let groups = recovered (g.D.Disk.seen mid) in
    let group = c.deref.result.now in
    let none : groups ≡ [] = c.in_ok-journal.ensures.same ∙ c.requires.new is_new in
    let until = mended g.D.Disk.moment g.D.Disk.left_since c.args.marks.now c.args.found c.in_ok-journal.journal (g.D.Disk.seen c.args.found) (c.requires.new is_new) begins c.in_ok-journal.ensures.any_moment c.in_ok-journal.ensures.torn in
    if_both_ok c.append.result (λ (after : g.row.D.Denot). LeavesOnly moment left_since mid after (IsBeforeOrAfter groups group)) (λ (after : g.row.D.Denot). LeavesOnly moment left_since mid after (IsAppending groups group))
    (λ (after : g.row.D.Denot). LeavesOnly moment left_since c.args.found after (IsNewJournal marks))
    c.append.ensures.any_moment c.append.ensures.torn
    (λ after whole torn. appended moment left_since marks c.args.found mid after groups group none (c.deref.ensures.value ∙ c.in-Ok.ensures) until whole torn)

pub returns-in-Ok-clause-new_journal_err : goal.returns-in-Ok-clause-new_journal_err
returns-in-Ok-clause-new_journal_err g c is_new begins =
    let moment = g.D.Disk.moment in
    let left_since = g.D.Disk.left_since in
    let marks = c.args.marks.now in
    let mid = c.in_ok-journal.journal in
    let groups = recovered (g.D.Disk.seen mid) in
    let group = c.deref.result.now in
    let none : groups ≡ [] = c.in_ok-journal.ensures.same ∙ c.requires.new is_new in
    let until = mended g.D.Disk.moment g.D.Disk.left_since c.args.marks.now c.args.found c.in_ok-journal.journal (g.D.Disk.seen c.args.found) (c.requires.new is_new) begins c.in_ok-journal.ensures.any_moment c.in_ok-journal.ensures.torn in
    if_both_err c.append.result (λ (e : DiskError × g.row.D.Denot). LeavesOnly moment left_since mid e.1 (IsBeforeOrAfter groups group)) (λ (e : DiskError × g.row.D.Denot). LeavesOnly moment left_since mid e.1 (IsAppending groups group))
    (λ (e : DiskError × g.row.D.Denot). LeavesOnly moment left_since c.args.found e.1 (IsNewJournal marks))
    c.append.ensures.any_moment_err c.append.ensures.torn_err
    (λ e whole torn. appended moment left_since marks c.args.found mid e.1 groups group none (c.deref.ensures.value ∙ c.in-Ok.ensures) until whole torn)

pub returns-in-Ok-2-clause-new_journal_err : goal.returns-in-Ok-2-clause-new_journal_err
returns-in-Ok-2-clause-new_journal_err g c is_new begins =
    subst (λ (disk : g.row.D.Denot). LeavesOnly g.D.Disk.moment g.D.Disk.left_since c.args.found disk (IsNewJournal c.args.marks.now)) (sym c.into_disk.ensures.same)
    (mended g.D.Disk.moment g.D.Disk.left_since c.args.marks.now c.args.found c.in_ok-journal.journal (g.D.Disk.seen c.args.found) (c.requires.new is_new) begins c.in_ok-journal.ensures.any_moment c.in_ok-journal.ensures.torn)

pub returns-in-Err-clause-new_journal_err : goal.returns-in-Err-clause-new_journal_err
returns-in-Err-clause-new_journal_err g c is_new begins =
    subst (λ (disk : g.row.D.Denot). LeavesOnly g.D.Disk.moment g.D.Disk.left_since c.args.found disk (IsNewJournal c.args.marks.now)) (sym c.into_disk-in-Err.ensures.same)
    (mended g.D.Disk.moment g.D.Disk.left_since c.args.marks.now c.args.found c.in_ok-journal.journal (g.D.Disk.seen c.args.found) (c.requires.new is_new) begins c.in_ok-journal.ensures.any_moment c.in_ok-journal.ensures.torn)

-- the head is appended to what was mended
pub returns-in-Ok-clause-any_moment : goal.returns-in-Ok-clause-any_moment
returns-in-Ok-clause-any_moment g c =
    let moment = g.D.Disk.moment in
    let left_since = g.D.Disk.left_since in
    let marks = c.args.marks.now in
    let mid = c.in_ok-journal.journal in
    let groups = recovered (g.D.Disk.seen c.args.found) in
    let now = recovered (g.D.Disk.seen mid) in
    let group = c.deref.result.now in
    if_ok c.append.result (λ (after : g.row.D.Denot). LeavesOnly moment left_since mid after (IsBeforeOrAfter now group))
    (λ (after : g.row.D.Denot). LeavesOnly moment left_since c.args.found after (IsAsItWasOrNew marks groups))
    c.append.ensures.any_moment
    (λ after run. then_leaves moment left_since c.args.found mid after (λ f. recovered f ≡ groups) (IsBeforeOrAfter now group)
    (IsAsItWasOrNew marks groups) c.in_ok-journal.ensures.any_moment run (λ f same. inl same)
    (as_it_was_or_new marks groups now group c.in_ok-journal.ensures.same (c.requires.new (search rules))
    (c.deref.ensures.value ∙ c.in-Ok.ensures)))

pub returns-in-Ok-clause-any_moment_err : goal.returns-in-Ok-clause-any_moment_err
returns-in-Ok-clause-any_moment_err g c =
    let moment = g.D.Disk.moment in
    let left_since = g.D.Disk.left_since in
    let marks = c.args.marks.now in
    let mid = c.in_ok-journal.journal in
    let groups = recovered (g.D.Disk.seen c.args.found) in
    let now = recovered (g.D.Disk.seen mid) in
    let group = c.deref.result.now in
    if_err c.append.result (λ (e : DiskError × g.row.D.Denot). LeavesOnly moment left_since mid e.1 (IsBeforeOrAfter now group))
    (λ (e : DiskError × g.row.D.Denot). LeavesOnly moment left_since c.args.found e.1 (IsAsItWasOrNew marks groups))
    c.append.ensures.any_moment_err
    (λ e run. then_leaves moment left_since c.args.found mid e.1 (λ f. recovered f ≡ groups) (IsBeforeOrAfter now group)
    (IsAsItWasOrNew marks groups) c.in_ok-journal.ensures.any_moment run (λ f same. inl same)
    (as_it_was_or_new marks groups now group c.in_ok-journal.ensures.same (c.requires.new (search rules))
    (c.deref.ensures.value ∙ c.in-Ok.ensures)))
