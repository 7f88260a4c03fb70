use Rattle.std.proofs.Common.{arith, subst}
use Rattle.row_store.specs.Legal.{IsLegal}
use Rattle.ssb_clients.specs.Tickets.{with_reader}
use Rattle.ssb_server.proofs.ClosingLaws.{clients_for, dispatchers_for, left_by_all}
use Rattle.ssb_server.proofs.opening.Opened.end.Goals as goal

pub gather_all-client_tokens-requires-clause-clients : goal.gather_all-client_tokens-requires-clause-clients
gather_all-client_tokens-requires-clause-clients g c =
    omega (arith, c.requires.there.clients_are.count_is, c.into_parts-table.ensures.few.0)

pub gather_all-client_tokens-requires-clause-dispatchers : goal.gather_all-client_tokens-requires-clause-dispatchers
gather_all-client_tokens-requires-clause-dispatchers g c =
    omega (arith, c.requires.there.dispatchers_are.count_is, c.into_parts-table.ensures.few.1)

pub close-requires-clause-clients : goal.close-requires-clause-clients
close-requires-clause-clients g c = clients_for _ c.args.self.server c.args.self.clients.items _ _
    c.into_parts-table.ensures.table c.gather_all-client_tokens.ensures.clients c.requires.there
    c.gather_all-client_tokens.ensures.rest c.requires.clients

pub close-requires-clause-dispatchers : goal.close-requires-clause-dispatchers
close-requires-clause-dispatchers g c = dispatchers_for _ c.args.self.server
    (with_reader c.args.self.dispatchers.items c.args.self.reader) _ _ c.into_parts-table.ensures.table
    c.gather_all-client_tokens.ensures.dispatchers c.requires.there
    c.gather_all-client_tokens.ensures.left c.requires.dispatchers

pub returns : goal.returns
returns g c = left_by_all _ _ _ _ _ _ c.close.result.base _ c.close.result.log _ c.into_parts-table.ensures.table
    c.gather_all-client_tokens.ensures.clients c.gather_all-client_tokens.ensures.dispatchers
    c.into_parts-base.ensures.base c.into_parts-base.ensures.log
    record {
      base_is = c.close.ensures.base;
      legal = subst (λ b. IsLegal b c.close.result.log) c.close.ensures.base c.close.ensures.legal;
      named = c.close.ensures.named;
      clients_saw = c.close.ensures.seen.0;
      dispatchers_saw = c.close.ensures.seen.1;
      true_log = c.close.ensures.true_log;
      owns = c.close.ensures.owns;
    }
