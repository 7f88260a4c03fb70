use Rattle.std.proofs.Common.{arith}
use Rattle.ssb_schema.specs.Texts.{texts_of}
use Rattle.ssb_schema.proofs.PartLaws.{put_three}
use Rattle.ssb_schema.proofs.texts.LineTexts.short.Goals as goal

pub invariant_of-result : goal.invariant_of-result
invariant_of-result c =
    let h = put_three c.args.order_priority.now c.args.ship_priority.now c.args.ship_mode.now _ c.put.new.bytes
    c.put-2.new.bytes c.put-3.new.bytes c.put.ensures c.put-2.ensures c.put-3.ensures in
    record {
      rising = omega arith;
      ordered = omega arith;
      within = omega (arith, c.requires);
      order_priority = rw h.one c.utf8.order_priority;
      ship_priority = rw h.two c.utf8.ship_priority;
      ship_mode = rw h.three c.utf8.ship_mode;
    }

pub returns : goal.returns
returns c =
    let h = put_three c.args.order_priority.now c.args.ship_priority.now c.args.ship_mode.now _ c.put.new.bytes
    c.put-2.new.bytes c.put-3.new.bytes c.put.ensures c.put-2.ensures c.put-3.ensures in
    λ i. texts_of (h.one i) (h.two i) (h.three i)
