use Rattle.std.proofs.Common.{◌∙◌, ap, inl, sym}
use Rattle.row_store.specs.History.{Warehouse}
use Rattle.history.specs.Tokens.{TokenRecord}
use Rattle.ssb_clients.proofs.order.order_lines.Goals as goal

pub take_rows-rows-requires-clause-table : goal.take_rows-rows-requires-clause-table
take_rows-rows-requires-clause-table g c = c.requires.1.table_is ∙ sym c.server.view_is

pub take_rows-rows-requires-clause-free : goal.take_rows-rows-requires-clause-free
take_rows-rows-requires-clause-free g c = c.requires.1.rows

pub put_rows-requires-clause-table : goal.put_rows-requires-clause-table
put_rows-requires-clause-table g c =
    ap (λ (t : TokenRecord). t.table) c.take_rows-rows.ensures.took.now ∙ (c.requires.1.table_is ∙ sym c.server.view_is)

pub put_rows-requires-clause-taken : goal.put_rows-requires-clause-taken
put_rows-requires-clause-taken g c = ap (λ (t : TokenRecord). t.has_rows) c.take_rows-rows.ensures.took.now

pub put_rows-requires-clause-rows : goal.put_rows-requires-clause-rows
put_rows-requires-clause-rows g c = (
  ap (λ (w : Warehouse). w.base) c.take_rows-rows.ensures.rows,
  inl (ap (λ (w : Warehouse). w.log) c.take_rows-rows.ensures.rows),
)
