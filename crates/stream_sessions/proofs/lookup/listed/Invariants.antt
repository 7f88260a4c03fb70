use Rattle.std.proofs.Common.{◌≡◌}
use Rattle.stream_sessions.proofs.lookup.listed.Given as goal

abbrev pub invariant-loop-value : goal.invariant-loop-value
invariant-loop-value l = l.values.items ≡ l.yielded
