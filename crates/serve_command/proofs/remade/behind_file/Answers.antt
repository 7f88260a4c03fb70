use Rattle.std.proofs.Common.{◌≡◌, ◌∙◌, arith, length, subst, sym}
use Rattle.std.proofs.lemmas.List.{take_at}
use Rattle.journal.specs.Groups.{recovered}
use Rattle.ssb_journal.specs.Opening.{IsKept}
use Rattle.serve_command.proofs.JournalLaws.{has_kept}
use Rattle.serve_command.proofs.RemadeLaws.{reader_at, shown_at}
use Rattle.serve_command.specs.LeftFiles.{IsFoundWith}
use Rattle.serve_command.specs.Seated.{AllHaveSeen}
use Rattle.serve_command.proofs.remade.behind_file.Goals as goal

pub show_all-requires-clause-reader : goal.show_all-requires-clause-reader
show_all-requires-clause-reader g c = reader_at _ _ _ _ _ c.requires.at_log

pub returns-in-Ok-clause-at_log : goal.returns-in-Ok-clause-at_log
returns-in-Ok-clause-at_log g c =
    let seats = c.args.seats in
    let many : length c.show_all.new.clients ≡ seats.clients.len =
    omega (arith, c.in-Ok.ensures.clients.count, c.requires.at_log.seated.count, seats.clients.ok.0) in
    rw (take_at c.show_all.new.clients _ seats.clients.len many)
    (shown_at c.args.server c.args.journal.reader.commits c.finish-opened.result.kept.commits.items seats.clients.items
    c.show_all.new.clients seats.reader c.show_all.new.reader seats.dispatchers.items c.requires.at_log
    c.finish-opened.ensures.commits c.in-Ok.ensures.clients c.in-Ok.ensures.same
    c.in-Ok.ensures.reader)

pub returns-in-Ok-clause-shown : goal.returns-in-Ok-clause-shown
returns-in-Ok-clause-shown g c =
    let seats = c.args.seats in
    let many : length c.show_all.new.clients ≡ seats.clients.len =
    omega (arith, c.in-Ok.ensures.clients.count, c.requires.at_log.seated.count, seats.clients.ok.0) in
    let seen : seats.reader.seen ≡ c.finish-opened.result.kept.commits.items =
    c.requires.at_log.seen ∙ sym c.finish-opened.ensures.commits in
    rw (take_at c.show_all.new.clients _ seats.clients.len many)
    (subst (λ l. AllHaveSeen l c.show_all.new.clients) seen c.in-Ok.ensures.seen)

pub returns-clause-file : goal.returns-clause-file
returns-clause-file g c =
    let opened = c.finish-opened.result in
    let file = g.U.Whole.Disk.seen opened.found in
    record {
      commits = opened.kept.commits.items;
      is = subst (IsFoundWith g.U.Whole.Disk.seen c.args.marks.now (g.U.UnreadDisk.holds c.args.journal.reader.unread)
          opened.kept.commits.items) (sym c.into_disk.ensures.same) (record {
            is_file = c.finish-opened.ensures.known;
            has = has_kept c.args.marks.now file opened.kept
                (subst (λ m. IsKept m (recovered file) opened.kept) c.requires.marks c.finish-opened.ensures.kept);
          });
    }
