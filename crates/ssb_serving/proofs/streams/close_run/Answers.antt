use Rattle.std.proofs.Common.{sym, subst}
use Rattle.std.specs.Prelude.{All}
use Rattle.ssb_clients.specs.Tickets.{IsQuiet}
use Rattle.ssb_serving.proofs.StreamLaws.{closed_with}
use Rattle.ssb_serving.proofs.streams.close_run.Goals as goal

pub close-requires-clause-clients : goal.close-requires-clause-clients
close-requires-clause-clients g c =
    subst (All (IsQuiet c.args.server)) (sym c.in_ok-clients.ensures.clients) c.requires.quiet

pub returns-clause-closed : goal.returns-clause-closed
returns-clause-closed g c =
    let closed = c.in-Ok.ensures in
    closed_with c.args.server _ _ _ _ c.in_ok-clients.ensures.clients closed.true_log closed.legal closed.named
    closed.seen.0 closed.seen.1 closed.owns
