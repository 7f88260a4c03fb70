use Rattle.std.proofs.Common.{rules}
use Rattle.ssb_serving.proofs.ListLaws.{push_made}
use Rattle.serve_command.proofs.journaled_run.clients_and_left.Goals as goal

pub loop-one-preserved : goal.loop-one-preserved
loop-one-preserved g c =
    let inv = c.loop-one.invariant in
    record {
      clients = push_made _ c.loop-one.yielded _ _ c.in-Some.one _ inv.clients c.in_ok-push.ensures.items
          (search rules);
      left = push_made _ c.loop-one.yielded _ _ c.in-Some.one _ inv.left c.in_ok-push-2.ensures.items (search rules);
    }
