use Rattle.std.proofs.Common.{◌≤◌, length}
use Rattle.ssb_server.specs.Turns.{HasGrabbed}
use Rattle.ssb_server.proofs.grabbing.grab_all.Given as goal

abbrev pub invariant-loop-before : goal.invariant-loop-before
invariant-loop-before g l = record {
  grabbed : HasGrabbed l.initial.token l.batch l.token;
  few :
      length l.batch.clients ≤ l.before;
}
