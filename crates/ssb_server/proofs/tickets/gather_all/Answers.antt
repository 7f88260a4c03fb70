use Rattle.std.proofs.Common.{◌∙◌, length, ap, arith}
use Rattle.ssb_clients.specs.Tickets.{with_reader}
use Rattle.ssb_server.proofs.SeatLaws.{gathered}
use Rattle.ssb_server.proofs.ClosingLaws.{left_with_reader, room_without_reader}
use Rattle.ssb_server.proofs.tickets.gather_all.Goals as goal

pub gather_clients-requires : goal.gather_clients-requires
gather_clients-requires g c =
    omega (
      arith,
      c.args.room.clients.ok.0 ∙ ap length c.args.room.no_clients,
      c.args.clients.ok.0,
      c.args.room.client_room,
      c.requires.clients,
    )

pub gather_dispatchers-requires : goal.gather_dispatchers-requires
gather_dispatchers-requires g c =
    omega (
      arith,
      c.args.room.dispatchers.ok.0 ∙ ap length c.args.room.no_dispatchers,
      c.args.dispatchers.ok.0,
      c.args.room.dispatcher_room,
      room_without_reader c.args.dispatchers.items c.args.reader 5 c.requires.dispatchers,
    )

pub gather_reader-requires : goal.gather_reader-requires
gather_reader-requires g c =
    let is = gathered c.args.dispatchers.items _ _ c.gather_dispatchers.ensures.items c.args.room.no_dispatchers in
    omega (
      arith,
      ap (λ xs. length (with_reader xs c.args.reader)) is,
      c.requires.dispatchers,
      c.gather_dispatchers.ensures.capacity,
      c.args.room.dispatcher_room,
    )

pub returns-clause-clients : goal.returns-clause-clients
returns-clause-clients g c = gathered c.args.clients.items _ _ c.gather_clients.ensures.items c.args.room.no_clients

pub returns-clause-dispatchers : goal.returns-clause-dispatchers
returns-clause-dispatchers g c = c.gather_reader.ensures.items ∙ ap (λ xs. with_reader xs c.args.reader)
    (gathered c.args.dispatchers.items _ _ c.gather_dispatchers.ensures.items c.args.room.no_dispatchers)

pub returns-clause-left : goal.returns-clause-left
returns-clause-left g c = left_with_reader c.args.dispatchers.items c.args.reader c.gather_dispatchers.ensures.left
    c.gather_reader.ensures.left
