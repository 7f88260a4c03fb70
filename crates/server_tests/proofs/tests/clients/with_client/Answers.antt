use Rattle.std.proofs.Common.{◌∙◌, ◌++◌, ◌∷◌, [], ap, sym, subst}
use Rattle.std.specs.Prelude.{All}
use Rattle.std.proofs.lemmas.List.Elements.{All-push}
use Rattle.ssb_clients.specs.Tickets.{IsQuiet}
use Rattle.server_tests.proofs.tests.clients.with_client.Goals as goal

pub returns : goal.returns
returns g c =
    subst (All (IsQuiet c.args.server.now))
    (sym (c.push_reserved.ensures.items ∙ ap (λ all. all ++ c.args.client ∷ []) c.reserve.ensures.items))
    (All-push (IsQuiet c.args.server.now) c.args.clients.items c.args.client c.requires.clients c.requires.client)
