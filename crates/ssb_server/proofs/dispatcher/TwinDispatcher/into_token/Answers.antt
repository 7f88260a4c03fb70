use Rattle.std.proofs.Common.{subst}
use Rattle.ssb_clients.specs.Tickets.{IsLeft}
use Rattle.ssb_server.proofs.dispatcher.TwinDispatcher.into_token.Goals as goal

pub returns-clause-left : goal.returns-clause-left
returns-clause-left g c = subst IsLeft c.self.view_is record {
  number = c.self.inside.number;
  who_is = c.self.invariant.who_is;
  free = c.self.invariant.free;
}
