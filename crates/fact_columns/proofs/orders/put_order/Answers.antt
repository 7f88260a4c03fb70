use Rattle.fact_columns.proofs.PlaceLaws.{spanned_put}
use Rattle.fact_columns.proofs.orders.put_order.Goals as goal

pub returns : goal.returns
returns g c = record {
  spanned = spanned_put c.args.spans.now c.widen.new.spans c.args.table.now.places
      c.put_all.new.table.places c.args.first c.args.key c.args.lines.now c.put_all.ensures.mine c.requires.can.own
      c.put_all.ensures.below c.put_all.ensures.above c.widen.ensures.own c.widen.ensures.grows c.requires.can.spanned;
  watched = c.put_all.ensures.watched;
  counts = c.put_all.ensures.counts;
  count = c.put_all.ensures.count;
  inside = c.put_all.ensures.inside;
  len = c.put_all.ensures.len.1;
  room = c.put_all.ensures.room;
  spare = c.widen.ensures.room;
  loaded = c.widen.ensures.loaded;
  longer = c.put_all.ensures.len.0;
}
