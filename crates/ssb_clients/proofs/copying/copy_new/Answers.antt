use Rattle.std.proofs.Common.{◌∙◌, ap, sym}
use Rattle.history.specs.Tokens.{TokenRecord}
use Rattle.ssb_clients.proofs.FetchingLaws.{fetches, there_when_taken}
use Rattle.ssb_clients.proofs.copying.copy_new.Goals as goal

pub take_rows-rows-requires-clause-table : goal.take_rows-rows-requires-clause-table
take_rows-rows-requires-clause-table g c = c.requires.dispatcher.table_is ∙ sym c.server.view_is

pub take_rows-rows-requires-clause-free : goal.take_rows-rows-requires-clause-free
take_rows-rows-requires-clause-free g c = c.requires.free

pub copy_and_put-requires-clause-table : goal.copy_and_put-requires-clause-table
copy_and_put-requires-clause-table g c = ap (λ (t : TokenRecord). t.table) c.take_rows-rows.ensures.took.now
    ∙ c.requires.dispatcher.table_is

pub copy_and_put-requires-clause-holds : goal.copy_and_put-requires-clause-holds
copy_and_put-requires-clause-holds g c = ap (λ (t : TokenRecord). t.has_rows) c.take_rows-rows.ensures.took.now

pub copy_and_put-requires-clause-taken : goal.copy_and_put-requires-clause-taken
copy_and_put-requires-clause-taken g c = there_when_taken c.args.token.now c.args.taken c.take_rows-rows.new.token
    c.requires.taken c.take_rows-rows.ensures.took

pub returns-clause-fetched : goal.returns-clause-fetched
returns-clause-fetched g c = fetches c.args.token.now c.take_rows-rows.new.token c.copy_and_put.new.token
    c.requires.dispatcher.number c.requires.dispatcher.who_is c.requires.free c.take_rows-rows.ensures.took
    c.copy_and_put.ensures.back
