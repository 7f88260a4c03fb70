use Rattle.fact_columns.proofs.PlaceLaws.{covered, reached, withdrawn, spanned_withdrawn}
use Rattle.fact_columns.proofs.orders.take_order.Goals as goal

pub free_order-freed-requires : goal.free_order-freed-requires
free_order-freed-requires g c place line is same = reached c.take_span-span.result c.args.spans.now.loaded.value
    c.take_span-span.new.spans.loaded.value place c.take_span-span.ensures.loaded (c.take_span-span.ensures.covers place
    (covered c.args.spans.now c.args.table.now.places c.args.key c.requires place line is same))

pub returns : goal.returns
returns g c = record {
  spanned = spanned_withdrawn c.args.spans.now c.take_span-span.new.spans
      c.args.table.now.places c.free_order-freed.new.table.places c.args.key c.take_span-span.ensures.others
      c.free_order-freed.ensures.gone c.requires;
  counts = λ dimensions. withdrawn dimensions c.args.key c.args.table.now.places c.free_order-freed.new.table.places
      c.free_order-freed.ensures.len c.free_order-freed.ensures.gone;
  watched = c.free_order-freed.ensures.watched;
  count = c.free_order-freed.ensures.count;
  inside = c.free_order-freed.ensures.inside;
  len = c.free_order-freed.ensures.len;
  room = c.free_order-freed.ensures.room;
  spare = c.take_span-span.ensures.room;
  loaded = c.take_span-span.ensures.loaded;
}
