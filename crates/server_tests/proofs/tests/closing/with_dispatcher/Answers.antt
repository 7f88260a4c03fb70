use Rattle.std.proofs.Common.{◌∙◌, ◌++◌, ◌∷◌, [], ap, sym, subst}
use Rattle.std.specs.Prelude.{All}
use Rattle.std.proofs.lemmas.List.Elements.{All-push}
use Rattle.ssb_clients.specs.Tickets.{IsOf}
use Rattle.server_tests.proofs.tests.closing.with_dispatcher.Goals as goal

pub returns : goal.returns
returns g c =
    subst (All (IsOf c.args.server.now))
    (sym (c.push_reserved.ensures.items ∙ ap (λ all. all ++ c.args.dispatcher ∷ []) c.reserve.ensures.items))
    (All-push (IsOf c.args.server.now) c.args.dispatchers.items c.args.dispatcher c.requires.dispatchers
    c.requires.dispatcher)
