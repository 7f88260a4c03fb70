use Rattle.std.proofs.Common.{◌≡◌, ◌++◌, ◌∙◌, arith, length, subst}
use Rattle.std.proofs.lemmas.List.{take_at}
use Rattle.ssb_serving.specs.Members.{AreStill}
use Rattle.serve_command.proofs.RemadeLaws.{as_many_stay, dispatchers_at, made_and_carried, reader_at}
use Rattle.serve_command.proofs.remade.remake_next.Goals as goal

pub remake-requires-clause-reader : goal.remake-requires-clause-reader
remake-requires-clause-reader g c = reader_at _ _ _ _ _ c.requires

pub carry_over-requires-clause-dispatchers : goal.carry_over-requires-clause-dispatchers
carry_over-requires-clause-dispatchers g c = rw c.deref_mut-2.ensures.value (dispatchers_at _ _ _ _ _ c.requires)

pub carry_over-requires-clause-reader : goal.carry_over-requires-clause-reader
carry_over-requires-clause-reader g c =
    c.in_ok-remake.ensures.reader.table ∙ reader_at _ _ _ _ _ c.requires

pub returns-clause-at_log : goal.returns-clause-at_log
returns-clause-at_log g c =
    let seats = c.args.seats.now in
    let many : length c.remake.new.clients ≡ seats.clients.len =
    omega (arith, c.in_ok-remake.ensures.clients.count, c.requires.seated.count, seats.clients.ok.0) in
    let still : AreStill seats.dispatchers.items c.carry_over.new.dispatchers =
    subst (λ l. AreStill l c.carry_over.new.dispatchers) c.deref_mut-2.ensures.value
    c.in_ok-carry_over.ensures.dispatchers in
    let members : length c.carry_over.new.dispatchers ≡ seats.dispatchers.len =
    omega (arith, as_many_stay seats.dispatchers.items c.carry_over.new.dispatchers still, seats.dispatchers.ok.0) in
    rw (
      take_at c.remake.new.clients _ seats.clients.len many,
      take_at c.carry_over.new.dispatchers _
          seats.dispatchers.len members,
    )
    (made_and_carried c.args.server.now seats.reader.seen (seats.reader.seen ++ c.args.commits.now) seats.clients.items
    c.remake.new.clients seats.reader c.remake.new.reader c.carry_over.new.reader seats.dispatchers.items
    c.carry_over.new.dispatchers c.requires c.in_ok-remake.ensures.clients c.in_ok-remake.ensures.seen
    c.in_ok-remake.ensures.reader c.in_ok-carry_over.ensures.same c.in_ok-carry_over.ensures.reader still)
