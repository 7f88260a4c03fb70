use Rattle.std.proofs.Common.{[], ◌∷◌, ap, length, length-append, arith}
use Rattle.scan_kernel.proofs.DealtLaws.{lists_more}
use Rattle.scan_kernel.proofs.range.lists_room.Goals as goal

pub loop-bit-preserved : goal.loop-bit-preserved
loop-bit-preserved c =
    let inv = c.loop-bit.invariant in
    let lists = c.loop-bit.lists.items in
    let one = c.in_ok-with_capacity.field-0 in
    let items = c.in_ok-push.ensures.items in record {
      all = omega (arith, ap length items, length-append lists (one ∷ []), inv.all);
      room = lists_more c.args.count c.loop-bit._bit lists c.push.new.self.items one inv.all items
          c.in_ok-with_capacity.ensures.capacity inv.room;
    }
