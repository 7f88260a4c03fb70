use Rattle.std.proofs.Common.{◌≡◌, map}
use Rattle.run_command.proofs.run.speakers_of.Given as goal

abbrev pub invariant-loop-script : goal.invariant-loop-script
invariant-loop-script l = map (λ speaker. speaker.script) l.speakers.items ≡ l.yielded
