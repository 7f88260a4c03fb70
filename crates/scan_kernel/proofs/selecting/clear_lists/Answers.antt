use Rattle.std.proofs.Common.{◌<◌, ◌∙◌, ap, length, sym, arith}
use Rattle.std.specs.Prelude.{vec_capacity}
use Rattle.scan_kernel.proofs.DealtLaws.{emptied_more, room_both, room_kept, room_written}
use Rattle.scan_kernel.proofs.selecting.clear_lists.Goals as goal

pub loop-number-init : goal.loop-number-init
loop-number-init c = record {
  room = room_kept c.args.lists.now;
  none = λ k list h. absurd (omega (arith, h));
}

pub loop-number-preserved : goal.loop-number-preserved
loop-number-preserved c =
    let n = c.loop-number.number in
    let lists = c.loop-number.lists in
    let one = c.index-lists-number.result in
    let within : n < length lists = omega (arith, c.loop-number.invariant.room.all) in
    record {
      room = room_both _ _ _ c.loop-number.invariant.room (room_written lists n one c.clear.new.self within
          c.index-lists-number.is (c.clear.ensures.capacity ∙ ap vec_capacity (sym c.index-lists-number.is)));
      none = emptied_more lists n one c.clear.new.self within c.index-lists-number.is c.clear.ensures.items
          c.loop-number.invariant.none;
    }

pub returns-clause-none : goal.returns-clause-none
returns-clause-none c = λ k list h. c.loop-number.invariant.none k list (omega arith)
