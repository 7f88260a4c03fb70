use Rattle.std.proofs.Common.{◌≡◌, ◌↔◌, IsTrue, Option, sym, subst}
use Rattle.std.specs.Prelude.{◌==◌, count_by}
use Rattle.history.specs.Tokens.{TokenRecord}
use Rattle.history.specs.Members.{number_of}
use Rattle.ssb_clients.specs.Tickets.{with_reader}
use Rattle.ssb_server.proofs.tickets.has_once.Goals as goal

pub returns-in-Some : goal.returns-in-Some
returns-in-Some g c = subst (λ (o : Option TokenRecord). IsTrue c.has_one_once.result
    ↔ (count_by (λ (t : TokenRecord). number_of t.who == c.args.number) (with_reader c.args.dispatchers.now o) ≡ 1))
    (sym c.in-Some.is) c.has_one_once.ensures
