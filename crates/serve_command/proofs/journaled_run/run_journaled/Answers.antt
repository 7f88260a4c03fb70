use Rattle.std.proofs.Common.{◌≡◌, ◌∙◌, Err, List, length, ap, refl, subst, sym, arith, rules}
use Rattle.journal.specs.Groups.{recovered as recovered_groups}
use Rattle.row_store.proofs.PrefixLaws.{beginnings_chain}
use Rattle.row_store.specs.History.{CommitRecord, IsPrefix}
use Rattle.serve_command.proofs.BeginningLaws.{as_it_was, begun_table, kept_in_beginning, kept_since}
use Rattle.serve_command.proofs.BeginningLaws.{kept_throughout, opened_dispatchers, opened_reader}
use Rattle.serve_command.proofs.BeginningLaws.{torn_at_first, torn_to_the_end}
use Rattle.serve_command.proofs.RemadeLaws.{still_of, still_on}
use Rattle.serve_command.proofs.RunLaws.{journaled_run, later_begins, left_of_log, parted_at, reader_begins}
use Rattle.serve_command.proofs.RunLaws.{ready_to_close, seated_quiet, told_each}
use Rattle.ssb_journal.specs.Kept.{IsAsItWasOrNew}
use Rattle.serve_command.specs.BegunFiles.{disk_of}
use Rattle.serve_command.specs.Reading.{IsLater}
use Rattle.ssb_serving.specs.Members.{IsStill}
use Rattle.history.specs.Tokens.{TokenRecord}
use Rattle.serve_command.proofs.journaled_run.run_journaled.Goals as goal

pub run_sessions-ended-requires-clause-clients : goal.run_sessions-ended-requires-clause-clients
run_sessions-ended-requires-clause-clients g c κs within =
    let at = c.requires.at_log in
    let parts = parted_at c.args.remade.server c.args.remade.opened.kept.commits.items (length c.args.speakers.items)
    c.len.result c.args.remade.seats.clients.items c.split_off.new.self.items c.in-Ok.resting.items at.seated
    c.requires.shown (omega (arith, c.len.ensures, c.args.speakers.ok.0, c.args.speakers.ok.1))
    (omega (arith, c.requires.few, c.requires.full, c.args.speakers.ok.0, c.args.speakers.ok.1))
    c.in-Ok.ensures.items c.in-Ok.ensures.tail in
    seated_quiet c.args.remade.server c.args.remade.opened.kept.commits.items (length c.args.speakers.items)
    c.split_off.new.self.items c.in-Ok.resting.items parts

pub run_sessions-ended-requires-clause-dispatchers : goal.run_sessions-ended-requires-clause-dispatchers
run_sessions-ended-requires-clause-dispatchers g c κs within =
    let at = c.requires.at_log in
    still_of c.args.remade.server at.made_with c.args.remade.seats.dispatchers.items
    (opened_dispatchers c.args.remade.server at.made_with at.made_reader at.are_new) at.still

pub run_sessions-ended-requires-clause-reader : goal.run_sessions-ended-requires-clause-reader
run_sessions-ended-requires-clause-reader g c κs within =
    let at = c.requires.at_log in
    rw c.in_ok-begun.ensures.reader
    (begun_table c.args.remade.server at.made_reader c.args.remade.seats.reader
    (opened_reader c.args.remade.server at.made_with at.made_reader at.are_new).1.0 at.reader_still)

pub run_sessions-ended-requires-clause-begun : goal.run_sessions-ended-requires-clause-begun
run_sessions-ended-requires-clause-begun g c κs within =
    record { moment_is = refl; count_is = refl; past_is = λ t file. (λ was. was, λ left. left) }

pub close_run-requires : goal.close_run-requires
close_run-requires g c =
    let at = c.requires.at_log in
    let parts = parted_at c.args.remade.server c.args.remade.opened.kept.commits.items (length c.args.speakers.items)
    c.len.result c.args.remade.seats.clients.items c.split_off.new.self.items c.in-Ok.resting.items at.seated
    c.requires.shown (omega (arith, c.len.ensures, c.args.speakers.ok.0, c.args.speakers.ok.1))
    (omega (arith, c.requires.few, c.requires.full, c.args.speakers.ok.0, c.args.speakers.ok.1))
    c.in-Ok.ensures.items c.in-Ok.ensures.tail in
    let served = rw c.in-Ok-ended.is at c.run_sessions-ended.ensures.served in
    let dispatchers = rw c.in-Ok-ended.is at c.run_sessions-ended.ensures.dispatchers in
    ready_to_close g.S.Speaker.spoken c.args.remade.server c.args.remade.opened.kept.commits.items
    c.args.speakers.items c.split_off.new.self.items c.in-Ok.resting.items _ _ at.made_with
    c.in-Ok-ended.ended.dispatchers.items at.made_reader c.in_ok-begun.begun.reader c.run_sessions-ended.result.1.reader parts
    served at.are_new
    (still_on at.made_with c.args.remade.seats.dispatchers.items c.in-Ok-ended.ended.dispatchers.items at.still
    dispatchers)
    (subst (IsStill at.made_reader) (sym c.in_ok-begun.ensures.reader) at.reader_still)
    c.run_sessions-ended.ensures.reader

pub returns-clause-served : goal.returns-clause-served
returns-clause-served g c =
    let at = c.requires.at_log in
    let parts = parted_at c.args.remade.server c.args.remade.opened.kept.commits.items (length c.args.speakers.items)
    c.len.result c.args.remade.seats.clients.items c.split_off.new.self.items c.in-Ok.resting.items at.seated
    c.requires.shown (omega (arith, c.len.ensures, c.args.speakers.ok.0, c.args.speakers.ok.1))
    (omega (arith, c.requires.few, c.requires.full, c.args.speakers.ok.0, c.args.speakers.ok.1))
    c.in-Ok.ensures.items c.in-Ok.ensures.tail in
    let served = rw c.in-Ok-ended.is at c.run_sessions-ended.ensures.served in
    let dispatchers = rw c.in-Ok-ended.is at c.run_sessions-ended.ensures.dispatchers in
    journaled_run g.S.Speaker.spoken c.args.remade.server c.args.remade.opened.kept.commits.items
    c.in_ok-closed.closed.log c.args.speakers.items c.split_off.new.self.items c.in-Ok.resting.items _ _
    c.in_ok-closed.closed.left.items at.made_with c.in-Ok-ended.ended.dispatchers.items at.made_reader
    c.in_ok-begun.begun.reader c.run_sessions-ended.result.1.reader parts served c.requires.full
    (ap (λ (t : TokenRecord). t.seen) c.in_ok-begun.ensures.reader ∙ at.seen) at.are_new
    (still_on at.made_with c.args.remade.seats.dispatchers.items c.in-Ok-ended.ended.dispatchers.items at.still
    dispatchers)
    (subst (IsStill at.made_reader) (sym c.in_ok-begun.ensures.reader) at.reader_still)
    c.run_sessions-ended.ensures.reader
    c.in_ok-closed.ensures.left c.in_ok-closed.ensures.closed

pub returns-clause-kept : goal.returns-clause-kept
returns-clause-kept g c =
    let left = c.run_sessions-ended.result.1 in
    let same = c.in_ok-closed.ensures.journal in
    rw (same.0, same.1, same.2)
    (left_of_log (g.D.Disk.may_leave left.disk) (g.D.Disk.seen left.disk) c.args.remade.server _
    c.in-Ok-ended.ended.dispatchers.items left.reader c.in_ok-closed.closed.log left.count left.is_whole
    c.in_ok-closed.ensures.closed
    c.run_sessions-ended.ensures.left)

pub returns-clause-told : goal.returns-clause-told
returns-clause-told g c =
    let same = c.in_ok-closed.ensures.journal in
    rw same.1
    (told_each c.in-Ok-ended.ended.spoken.items c.deref.result.now c.in_ok-closed.closed.left.items
    (λ one. one.left) g.S.Speaker.told c.run_sessions-ended.result.1.count c.in_ok-closed.ensures.left c.deref.ensures.value
    (c.all_are_kept.ensures c.if-not-all_are_kept.false))

pub returns-clause-any_moment : goal.returns-clause-any_moment
returns-clause-any_moment g c =
    let kept = c.args.remade.opened.kept in
    let groups = recovered_groups (g.D.Disk.seen c.args.remade.opened.found) in
    let found = c.args.remade.opened.found in
    let now = c.run_sessions-ended.result.1 in
    let log = c.in_ok-closed.closed.log in
    let begins = reader_begins c.args.remade.server _ c.in-Ok-ended.ended.dispatchers.items now.reader log
    c.in_ok-closed.ensures.closed in
    let later : IsLater c.in_ok-begun.begun.reader now.reader =
    c.run_sessions-ended.ensures.reader in
    let goes_on : IsPrefix kept.commits.items log =
    subst (λ (l : List CommitRecord). IsPrefix l log) (ap (λ (t : TokenRecord). t.seen) c.in_ok-begun.ensures.reader ∙ c.requires.at_log.seen)
    (beginnings_chain c.in_ok-begun.begun.reader.seen now.reader.seen log
    (later_begins c.in_ok-begun.begun.reader now.reader later) begins) in
    rw c.in_ok-closed.ensures.journal.0
    (kept_throughout g.D.Disk.moment g.D.Disk.left_since found (disk_of c.in_ok-begun.begun.file) now.disk
    (IsAsItWasOrNew c.args.remade.marks.now groups) c.in_ok-begun.begun.count now.count kept.commits.items
    now.reader.seen log c.in_ok-begun.ensures.any_moment
    c.in_ok-begun.ensures.count
    c.run_sessions-ended.ensures.since begins
    (λ file left. as_it_was c.args.remade.marks.now kept groups log file c.first_of_log.ensures c.requires.kept
    goes_on left))

pub returns-in_default-clause-any_moment_err : goal.returns-in_default-clause-any_moment_err
returns-in_default-clause-any_moment_err g c =
    let found = c.args.remade.opened.found in
    rw c.into_disk.ensures
    (kept_in_beginning g.D.Disk.moment g.D.Disk.left_since found (disk_of c.in_ok-begun.begun.file)
    c.args.remade.marks.now c.args.remade.opened.kept (recovered_groups (g.D.Disk.seen found))
    c.first_of_log.ensures c.requires.kept c.in_ok-begun.ensures.any_moment)

pub returns-then-not-all_are_kept-clause-any_moment_err : goal.returns-then-not-all_are_kept-clause-any_moment_err
returns-then-not-all_are_kept-clause-any_moment_err g c =
    let kept = c.args.remade.opened.kept in
    let found = c.args.remade.opened.found in
    let begun = c.in_ok-begun.begun in
    let left = c.run_sessions-ended.result.1 in
    (kept_since g.D.Disk.moment g.D.Disk.left_since found (disk_of begun.file) left.disk c.args.remade.marks.now kept
    (recovered_groups (g.D.Disk.seen found)) begun.count begun.reader.seen c.first_of_log.ensures c.requires.kept
    c.in_ok-begun.ensures.any_moment
    c.in_ok-begun.ensures.count (ap (λ (t : TokenRecord). t.seen) c.in_ok-begun.ensures.reader ∙ c.requires.at_log.seen)
    (record {
      count = left.count;
      log = left.reader.seen;
      begins = later_begins begun.reader left.reader c.run_sessions-ended.ensures.reader;
      since = c.run_sessions-ended.ensures.since;
    }))

pub returns-in_default-ended-clause-any_moment_err : goal.returns-in_default-ended-clause-any_moment_err
returns-in_default-ended-clause-any_moment_err g c =
    let kept = c.args.remade.opened.kept in
    let found = c.args.remade.opened.found in
    let begun = c.in_ok-begun.begun in
    let left = c.run_sessions-ended.result.1 in
    (kept_since g.D.Disk.moment g.D.Disk.left_since found (disk_of begun.file) left.disk c.args.remade.marks.now kept
    (recovered_groups (g.D.Disk.seen found)) begun.count begun.reader.seen c.first_of_log.ensures c.requires.kept
    c.in_ok-begun.ensures.any_moment
    c.in_ok-begun.ensures.count (ap (λ (t : TokenRecord). t.seen) c.in_ok-begun.ensures.reader ∙ c.requires.at_log.seen)
    (record {
      count = left.count;
      log = left.reader.seen;
      begins = later_begins begun.reader left.reader c.run_sessions-ended.ensures.reader;
      since = c.run_sessions-ended.ensures.since;
    }))

pub returns-in_err-closed-clause-fault : goal.returns-in_err-closed-clause-fault
returns-in_err-closed-clause-fault g c =
    let is : c.from_residual-in_err-closed.result ≡ Err c.in_err-closed.field-0.0 = search rules in
    rw (is, c.in_err-closed.ensures.handed) tt

pub returns-in_err-closed-clause-any_moment_err : goal.returns-in_err-closed-clause-any_moment_err
returns-in_err-closed-clause-any_moment_err g c =
    let kept = c.args.remade.opened.kept in
    let found = c.args.remade.opened.found in
    let begun = c.in_ok-begun.begun in
    let left = c.run_sessions-ended.result.1 in
    let is : c.from_residual-in_err-closed.result ≡ Err c.in_err-closed.field-0.0 = search rules in
    rw (is, c.in_err-closed.ensures.handed)
    (kept_since g.D.Disk.moment g.D.Disk.left_since found (disk_of begun.file) left.disk c.args.remade.marks.now kept
    (recovered_groups (g.D.Disk.seen found)) begun.count begun.reader.seen c.first_of_log.ensures c.requires.kept
    c.in_ok-begun.ensures.any_moment
    c.in_ok-begun.ensures.count (ap (λ (t : TokenRecord). t.seen) c.in_ok-begun.ensures.reader ∙ c.requires.at_log.seen)
    (record {
      count = left.count;
      log = left.reader.seen;
      begins = later_begins begun.reader left.reader c.run_sessions-ended.ensures.reader;
      since = c.run_sessions-ended.ensures.since;
    }))

pub returns-clause-torn : goal.returns-clause-torn
returns-clause-torn g c =
    let same = c.in_ok-closed.ensures.journal in
    let found = c.args.remade.opened.found in
    rw (same.0, same.3)
    (torn_to_the_end g.T.KeepsTorn.bytes (g.D.Disk.seen found) found c.run_sessions-ended.result.1.disk
    c.in_ok-begun.begun.file c.in_ok-begun.torn c.run_sessions-ended.ensures.untouched c.in_ok-begun.ensures.torn)

pub returns-then-not-all_are_kept-clause-torn_err : goal.returns-then-not-all_are_kept-clause-torn_err
returns-then-not-all_are_kept-clause-torn_err g c =
    let found = c.args.remade.opened.found in
    torn_to_the_end g.T.KeepsTorn.bytes (g.D.Disk.seen found) found c.run_sessions-ended.result.1.disk
    c.in_ok-begun.begun.file c.in_ok-begun.torn c.run_sessions-ended.ensures.untouched c.in_ok-begun.ensures.torn

pub returns-in_default-clause-torn_err : goal.returns-in_default-clause-torn_err
returns-in_default-clause-torn_err g c =
    let found = c.args.remade.opened.found in
    rw c.into_disk.ensures
    (torn_at_first g.T.KeepsTorn.bytes (g.D.Disk.seen found) found c.in_ok-begun.begun.file c.in_ok-begun.torn
    c.in_ok-begun.ensures.torn)

pub returns-in_default-ended-clause-torn_err : goal.returns-in_default-ended-clause-torn_err
returns-in_default-ended-clause-torn_err g c =
    let found = c.args.remade.opened.found in
    torn_to_the_end g.T.KeepsTorn.bytes (g.D.Disk.seen found) found c.run_sessions-ended.result.1.disk
    c.in_ok-begun.begun.file c.in_ok-begun.torn c.run_sessions-ended.ensures.untouched c.in_ok-begun.ensures.torn

pub returns-in_err-closed-clause-torn_err : goal.returns-in_err-closed-clause-torn_err
returns-in_err-closed-clause-torn_err g c =
    let found = c.args.remade.opened.found in
    let is : c.from_residual-in_err-closed.result ≡ Err c.in_err-closed.field-0.0 = search rules in
    rw (is, c.in_err-closed.ensures.handed)
    (torn_to_the_end g.T.KeepsTorn.bytes (g.D.Disk.seen found) found c.run_sessions-ended.result.1.disk
    c.in_ok-begun.begun.file c.in_ok-begun.torn c.run_sessions-ended.ensures.untouched c.in_ok-begun.ensures.torn)
