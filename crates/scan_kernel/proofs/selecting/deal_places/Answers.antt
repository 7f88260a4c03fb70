use Rattle.std.proofs.Common.{subst}
use Rattle.std.proofs.lemmas.List.{take_all}
use Rattle.scan_kernel.specs.Dealt.{AreDealt}
use Rattle.scan_kernel.proofs.DealtLaws.{dealt_more, few_more, room_both}
use Rattle.scan_kernel.proofs.selecting.deal_places.Goals as goal

pub loop-at-preserved : goal.loop-at-preserved
loop-at-preserved c =
    let inv = c.loop-at.invariant in
    let gives = c.deal_place.ensures.gives in record {
      room = room_both _ _ _ inv.room c.deal_place.ensures.room;
      few = few_more _ _ c.loop-at.at c.loop-at.lists c.deal_place.new.lists gives inv.few;
      dealt = λ mask are.
          dealt_more mask c.args.places.now c.args.found.now c.loop-at.at c.loop-at.lists c.deal_place.new.lists are
          c.loop-at-test.true (inv.dealt mask are) gives;
    }

pub returns-clause-dealt : goal.returns-clause-dealt
returns-clause-dealt c = λ mask are.
    subst (λ places. AreDealt mask places c.loop-at.lists)
    (take_all c.loop-at.at c.args.places.now c.loop-at-test.false) (c.loop-at.invariant.dealt mask are)
