use Rattle.std.proofs.Common.{rules}
use Rattle.ssb_serving.proofs.ListLaws.{push_read, push_flat}
use Rattle.run_command.proofs.run.sessions_left.Goals as goal

pub loop-session-preserved : goal.loop-session-preserved
loop-session-preserved c =
    let inv = c.loop-session.invariant in record {
      reports = push_read _ _ c.loop-session.yielded _ _ c.in-Some.session _ inv.reports c.in_ok-push.ensures.items
          (search rules);
      told = push_flat _ c.loop-session.yielded _ _ c.in-Some.session _ inv.told c.in_ok-append.ensures.items
          (search rules);
    }
