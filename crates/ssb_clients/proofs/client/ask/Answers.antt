use Rattle.std.proofs.Common.{◌∙◌, ap}
use Rattle.history.specs.Tokens.{TokenRecord}
use Rattle.ssb_clients.proofs.PollingLaws.{asks}
use Rattle.ssb_clients.proofs.client.ask.Goals as goal

pub look-requires : goal.look-requires
look-requires g c = record { table = c.requires.client.table_is }

pub post-requires-clause-table : goal.post-requires-clause-table
post-requires-clause-table g c = ap (λ (t : TokenRecord). t.table) c.look.ensures.saw.now ∙ c.requires.client.table_is

pub post-requires-clause-client : goal.post-requires-clause-client
post-requires-clause-client g c = (
  c.args.number,
  ap (λ (t : TokenRecord). t.who) c.look.ensures.saw.now ∙ c.requires.client.who_is,
)

pub post-requires-clause-mailbox : goal.post-requires-clause-mailbox
post-requires-clause-mailbox g c = ap (λ (t : TokenRecord). t.asked) c.look.ensures.saw.now ∙ c.requires.mailbox

pub returns : goal.returns
returns g c = record {
  asked = asks c.args.token.now c.look.new.token c.post.new.token c.args.questions c.look.ensures.saw
      c.post.ensures.posted;
}
