use Rattle.std.proofs.Common.{refl}
use Rattle.ssb_script.specs.Requests.{IsWholeAction}
use Rattle.ssb_trace.specs.Allowed.{IsAllowedAction}
use Rattle.ssb_text.proofs.EachLaws.{all_held, each, one_more}
use Rattle.ssb_trace.proofs.committed.actions_are_allowed.Goals as goal

pub loop-action-preserved : goal.loop-action-preserved
loop-action-preserved c = (
  one_more IsWholeAction c.args.actions.now c.loop-action.action-index c.action-item.result c.loop-action-test.true
      c.action-item.is c.action_is_allowed.ensures.whole c.loop-action.invariant.0,
  one_more IsAllowedAction c.args.actions.now c.loop-action.action-index c.action-item.result c.loop-action-test.true
      c.action-item.is c.action_is_allowed.ensures.allowed c.loop-action.invariant.1,
)

pub returns : goal.returns
returns c = record {
  whole = each IsWholeAction c.args.actions.now c.loop-action.action-index c.loop-action-test.false
      c.loop-action.invariant.0;
  allowed = all_held IsAllowedAction c.args.actions.now c.args.actions.now c.loop-action.action-index
      c.loop-action-test.false refl c.loop-action.invariant.1;
}
