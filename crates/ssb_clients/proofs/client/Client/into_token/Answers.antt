use Rattle.std.proofs.Common.{subst}
use Rattle.ssb_clients.specs.Tickets.{IsResting}
use Rattle.ssb_clients.proofs.client.Client.into_token.Goals as goal

pub returns-clause-rest : goal.returns-clause-rest
returns-clause-rest g c = subst IsResting c.self.view_is
    record {
      number = c.self.inside.number;
      who_is = c.self.invariant.who_is;
      rows = c.self.invariant.rows;
    }
