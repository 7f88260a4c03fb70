use Rattle.std.proofs.Common.{◌≡◌, ◌≤◌, length, ◌∙◌, ap, sym, subst, arith}
use Rattle.std.specs.Prelude.{All}
use Rattle.history.specs.Tokens.{new_dispatchers}
use Rattle.ssb_clients.specs.Tickets.{with_reader}
use Rattle.ssb_server.specs.Opening.{IsNewDispatcher}
use Rattle.ssb_server.proofs.SeatLaws.{dispatchers_are_new}
use Rattle.ssb_server.proofs.ReaderLaws.{dispatcher_count, new_without_reader, as_many_answer}
use Rattle.ssb_server.proofs.opening.seated.Goals as goal

pub reader_of-reader-requires : goal.reader_of-reader-requires
reader_of-reader-requires g c =
    let table = c.args.made.opened.shared in
    let tokens = c.args.made.opened.dispatchers.items in
    let count : length tokens ≡ table.dispatchers = dispatcher_count table tokens c.requires.dispatchers in
    record {
      base = table.base;
      new = subst (All (IsNewDispatcher table.base)) (sym c.requires.dispatchers) (dispatchers_are_new table);
      some = λ reads. omega (arith, count, c.requires.counts.1, c.requires.few.1);
    }

pub seat_all-requires-clause-dispatchers : goal.seat_all-requires-clause-dispatchers
seat_all-requires-clause-dispatchers g c =
    let table = c.args.made.opened.shared in
    new_without_reader table.base c.args.made.opened.dispatchers.items c.reader_of-reader.new.tokens.items
    c.reader_of-reader.result c.reader_of-reader.ensures.parted
    (subst (All (IsNewDispatcher table.base)) (sym c.requires.dispatchers) (dispatchers_are_new table))

pub seat_all-requires-clause-each : goal.seat_all-requires-clause-each
seat_all-requires-clause-each g c =
    let table = c.args.made.opened.shared in
    let tokens = c.args.made.opened.dispatchers.items in
    let count : length tokens ≡ table.dispatchers = dispatcher_count table tokens c.requires.dispatchers in
    sym (as_many_answer c.args.keeps (length c.args.made.readers.items) c.reader_of-reader.new.tokens.items
    c.reader_of-reader.result c.reader_of-reader.ensures.there
    (ap length c.reader_of-reader.ensures.parted ∙ (count ∙ (sym c.requires.counts.1 ∙ sym c.requires.each))))

pub returns-in-Ok-clause-dispatchers : goal.returns-in-Ok-clause-dispatchers
returns-in-Ok-clause-dispatchers g c =
    ap (λ xs. with_reader xs c.in-Ok.seated.reader) c.in-Ok.ensures.dispatchers
    ∙ (ap (with_reader c.reader_of-reader.new.tokens.items) c.in-Ok.ensures.reader
    ∙ (c.reader_of-reader.ensures.parted ∙ (c.requires.dispatchers ∙ ap new_dispatchers (sym c.in-Ok.ensures.server))))
