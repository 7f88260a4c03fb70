use Rattle.std.proofs.Common.{sym, subst}
use Rattle.std.specs.Prelude.{All}
use Rattle.ssb_clients.specs.Tickets.{IsNewClient}
use Rattle.ssb_server.proofs.SeatLaws.{clients_are_new}
use Rattle.ssb_server.proofs.opening.seat_all.Goals as goal

pub clients_of-requires : goal.clients_of-requires
clients_of-requires g c = subst (All IsNewClient) (sym c.requires.clients) (clients_are_new c.args.made.opened.shared)

pub dispatchers_of-requires : goal.dispatchers_of-requires
dispatchers_of-requires g c = record {
  base = c.args.made.opened.shared.base;
  tokens_are = c.requires.dispatchers;
  readers_are = c.requires.readers;
  count = c.requires.each;
}
