use Rattle.std.proofs.Common.{◌∙◌, ap, sym}
use Rattle.history.specs.Tokens.{TokenRecord}
use Rattle.ssb_server.proofs.grabbing.grab_all.Goals as goal

pub grab-requires-clause-table : goal.grab-requires-clause-table
grab-requires-clause-table g c = ap (λ (t : TokenRecord). t.table) c.loop-before.invariant.grabbed.now
    ∙ (c.requires.dispatcher.table_is ∙ sym c.table-table.ensures)

pub grab-requires-clause-dispatcher : goal.grab-requires-clause-dispatcher
grab-requires-clause-dispatcher g c = (
  c.requires.dispatcher.number,
  ap (λ (t : TokenRecord). t.who) c.loop-before.invariant.grabbed.now ∙ c.requires.dispatcher.who_is,
)

pub grab-requires-clause-free : goal.grab-requires-clause-free
grab-requires-clause-free g c = (
  ap (λ (t : TokenRecord). t.has_rows) c.loop-before.invariant.grabbed.now ∙ c.requires.free.0.rows,
  ap (λ (t : TokenRecord). t.has_writer) c.loop-before.invariant.grabbed.now ∙ c.requires.free.0.writer,
)
