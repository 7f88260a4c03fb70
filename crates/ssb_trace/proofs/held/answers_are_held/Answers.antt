use Rattle.std.proofs.Common.{refl}
use Rattle.ssb_trace.specs.Allowed.{IsHeld}
use Rattle.ssb_text.proofs.EachLaws.{all_held, one_more}
use Rattle.ssb_trace.proofs.held.answers_are_held.Goals as goal

pub loop-told-preserved : goal.loop-told-preserved
loop-told-preserved c =
    one_more IsHeld c.args.answers.now c.loop-told.told-index c.told-item.result c.loop-told-test.true c.told-item.is
    c.told_is_held.ensures c.loop-told.invariant

pub returns : goal.returns
returns c =
    all_held IsHeld c.args.answers.now c.args.answers.now c.loop-told.told-index c.loop-told-test.false refl
    c.loop-told.invariant
