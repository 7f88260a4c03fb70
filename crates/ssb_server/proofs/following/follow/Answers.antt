use Rattle.std.proofs.Common.{◌∙◌, ap, sym}
use Rattle.history.specs.Tokens.{TokenRecord}
use Rattle.ssb_server.proofs.SnapshotLaws.{dispatcher_with, dispatcher_fetched, taken_with, snapshot_fetched}
use Rattle.ssb_server.proofs.following.follow.Goals as goal

pub take_writer-writer-requires-clause-table : goal.take_writer-writer-requires-clause-table
take_writer-writer-requires-clause-table g c = c.requires.dispatcher.table_is ∙ sym c.table-table.ensures

pub take_writer-writer-requires-clause-dispatcher : goal.take_writer-writer-requires-clause-dispatcher
take_writer-writer-requires-clause-dispatcher g c = (c.requires.dispatcher.number, c.requires.dispatcher.who_is)

pub take_writer-writer-requires-clause-free : goal.take_writer-writer-requires-clause-free
take_writer-writer-requires-clause-free g c = (c.requires.free.rows, c.requires.free.writer)

pub carry_over-writer-requires-clause-dispatcher : goal.carry_over-writer-requires-clause-dispatcher
carry_over-writer-requires-clause-dispatcher g c = dispatcher_with c.args.server.now c.args.token.now _
    c.take_writer-writer.new.token c.take_writer-writer.ensures.taken c.requires.dispatcher

pub carry_over-writer-requires-clause-free : goal.carry_over-writer-requires-clause-free
carry_over-writer-requires-clause-free g c = ap (λ (t : TokenRecord). t.has_rows) c.take_writer-writer.ensures.taken
    ∙ c.requires.free.rows

pub carry_over-writer-requires-clause-writer : goal.carry_over-writer-requires-clause-writer
carry_over-writer-requires-clause-writer g c = taken_with c.args.token.now c.take_writer-writer.result
    c.take_writer-writer.new.token c.take_writer-writer.ensures.taken c.take_writer-writer.ensures.base

pub put_writer-requires : goal.put_writer-requires
put_writer-requires g c =
    let is = dispatcher_fetched c.args.server.now c.take_writer-writer.new.token c.carry_over-writer.new.token
    c.carry_over-writer.ensures.fetched (dispatcher_with c.args.server.now c.args.token.now _
    c.take_writer-writer.new.token c.take_writer-writer.ensures.taken c.requires.dispatcher) in
    let now = c.carry_over-writer.ensures.fetched.now in
    let taken = c.take_writer-writer.ensures.taken in
    record {
      table = is.table_is ∙ sym c.table-table.ensures;
      dispatcher = (is.number, is.who_is);
      taken = (
        ap (λ (t : TokenRecord). t.has_writer) now ∙ ap (λ (t : TokenRecord). t.has_writer) taken,
        ap (λ (t : TokenRecord). t.has_rows) now ∙ (ap (λ (t : TokenRecord). t.has_rows) taken ∙ c.requires.free.rows),
      );
      base = c.carry_over-writer.ensures.writer.base_is;
      follows = c.carry_over-writer.ensures.writer.taken;
    }

pub returns : goal.returns
returns g c = record {
  followed = snapshot_fetched c.args.token.now _ c.take_writer-writer.new.token c.carry_over-writer.new.token
      c.put_writer.new.token c.requires.free.writer c.take_writer-writer.ensures.taken
      c.carry_over-writer.ensures.fetched c.put_writer.ensures.put;
}
