use Rattle.history.specs.Tokens.{new_dispatchers}
use Rattle.ssb_clients.proofs.StayingLaws.{without_reader}
use Rattle.ssb_serving.proofs.streams.serve_streams.Goals as goal

pub run_opened-requires-clause-dispatchers : goal.run_opened-requires-clause-dispatchers
run_opened-requires-clause-dispatchers g c κs outlives =
    let opened = c.in-Ok.opened in
    without_reader opened.dispatchers.items (new_dispatchers opened.server) opened.reader c.in-Ok.ensures.dispatchers
    c.in-Ok.ensures.reader
