use Rattle.std.proofs.Common.{◌≡◌, map, Some}
use Rattle.run_command.proofs.run.all_whole.Given as goal

abbrev pub invariant-loop-one : goal.invariant-loop-one
invariant-loop-one l = map (λ session. Some session) l.sessions.items ≡ l.yielded
