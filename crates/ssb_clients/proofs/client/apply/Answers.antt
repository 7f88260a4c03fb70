use Rattle.std.proofs.Common.{◌∙◌, ap, sym}
use Rattle.history.specs.Tokens.{TokenRecord}
use Rattle.ssb_clients.proofs.RefreshingLaws.{may_put, refreshed}
use Rattle.ssb_clients.proofs.client.apply.Goals as goal

pub take_rows-rows-requires-clause-table : goal.take_rows-rows-requires-clause-table
take_rows-rows-requires-clause-table g c = c.requires.table_is ∙ sym c.server.view_is

pub take_rows-rows-requires-clause-free : goal.take_rows-rows-requires-clause-free
take_rows-rows-requires-clause-free g c = c.requires.rows

pub put_rows-requires-clause-table : goal.put_rows-requires-clause-table
put_rows-requires-clause-table g c =
    ap (λ (t : TokenRecord). t.table) c.take_rows-rows.ensures.took.now ∙ (c.requires.table_is ∙ sym c.server.view_is)

pub put_rows-requires-clause-taken : goal.put_rows-requires-clause-taken
put_rows-requires-clause-taken g c = ap (λ (t : TokenRecord). t.has_rows) c.take_rows-rows.ensures.took.now

pub put_rows-requires-clause-rows : goal.put_rows-requires-clause-rows
put_rows-requires-clause-rows g c = may_put c.take_rows-rows.new.token c.take_rows-rows.result c.refresh-reply.new.self
    c.args.number c.args.refresh.value c.refresh-reply.result
    (ap (λ (t : TokenRecord). t.who) c.take_rows-rows.ensures.took.now ∙ c.requires.who_is) c.take_rows-rows.ensures.rows
    c.refresh-reply.ensures.reply c.refresh-reply.ensures.committed c.refresh-reply.ensures.unchanged

pub returns : goal.returns
returns g c = record {
  refreshed = refreshed c.args.token.now c.take_rows-rows.new.token c.put_rows.new.token
      c.take_rows-rows.result c.refresh-reply.new.self c.args.number c.args.refresh.value c.refresh-reply.result
      c.requires.who_is c.requires.rows c.take_rows-rows.ensures.took c.take_rows-rows.ensures.rows
      c.refresh-reply.ensures.reply c.refresh-reply.ensures.committed c.refresh-reply.ensures.unchanged
      c.put_rows.ensures.put;
}
