use Rattle.std.proofs.Common.{◌∙◌, ap}
use Rattle.history.specs.Tokens.{TokenRecord}
use Rattle.ssb_clients.proofs.PollingLaws.{polled}
use Rattle.ssb_clients.proofs.client.poll.Goals as goal

pub collect-requires-clause-table : goal.collect-requires-clause-table
collect-requires-clause-table g c = c.requires.client.table_is

pub collect-requires-clause-client : goal.collect-requires-clause-client
collect-requires-clause-client g c = (c.args.number, c.requires.client.who_is)

pub look-requires : goal.look-requires
look-requires g c = record {
  table = ap (λ (t : TokenRecord). t.table) c.in_ok-answer.ensures.collected.now ∙ c.requires.client.table_is;
}

pub returns : goal.returns
returns g c = record {
  polled = polled c.args.token.now c.collect.new.token c.look.new.token c.in_ok-answer.answer
      c.in_ok-answer.ensures.collected c.look.ensures.saw;
}
