use Rattle.server_tests.proofs.PlaceLaws.{refreshed_stays}
use Rattle.server_tests.proofs.tests.clients.refreshed.Goals as goal

pub returns : goal.returns
returns g c =
    refreshed_stays c.args.server.now c.number.result c.args.refresh.value c.args.client.now c.refresh.new.self
    c.refresh.result c.requires
    (c.refresh.ensures.refreshed c.number.result c.number.ensures.who)
