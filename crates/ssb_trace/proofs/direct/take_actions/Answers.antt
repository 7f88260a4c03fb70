use Rattle.std.proofs.lemmas.List.Elements.{All-nil, All-push}
use Rattle.ssb_script.specs.Requests.{IsWholeAction}
use Rattle.ssb_trace.proofs.DirectLaws.{actions_end, actions_more, begins_none}
use Rattle.ssb_trace.proofs.direct.take_actions.Goals as goal

pub loop-behind-init : goal.loop-behind-init
loop-behind-init c =
    rw c.new-actions.ensures.items (record { whole = All-nil IsWholeAction; begins = begins_none c.args.text.now })

pub returns-in-Some : goal.returns-in-Some
returns-in-Some c = (
  c.loop-behind.invariant.whole,
  actions_end c.loop-behind.actions.items c.loop-behind.invariant.begins c.in-Some.ensures,
)

pub loop-behind-preserved : goal.loop-behind-preserved
loop-behind-preserved c =
    let actions = c.loop-behind.actions.items in
    let one = c.in_ok-action.action in
    rw c.in_ok-push.ensures (record {
      whole = All-push IsWholeAction actions one c.loop-behind.invariant.whole c.in_ok-action.ensures.0;
      begins = actions_more actions one c.loop-behind.invariant.begins c.in_ok-action.ensures.1;
    })
