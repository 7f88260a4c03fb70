use Rattle.std.proofs.lemmas.List.Elements.{All-pop}
use Rattle.ssb_clients.specs.Tickets.{IsQuiet}
use Rattle.server_tests.proofs.tests.clients.next_client.Goals as goal

pub returns-clause-left : goal.returns-clause-left
returns-clause-left g c = (All-pop (IsQuiet c.args.server.now) c.args.clients.now.items c.pop.new.self.items
    c.pop.result c.pop.ensures.items c.requires).0

pub returns-clause-next : goal.returns-clause-next
returns-clause-next g c = (All-pop (IsQuiet c.args.server.now) c.args.clients.now.items c.pop.new.self.items
    c.pop.result c.pop.ensures.items c.requires).1
