use Rattle.std.proofs.Common.{◌≡◌, ◌+◌, length, vec_len}
use Rattle.std.specs.Prelude.{All}
use Rattle.serve_command.proofs.serving.speakers_of.Given as goal

-- each of the clients so far has its speaker, who knows the past
abbrev pub invariant-loop-paths : goal.invariant-loop-paths
invariant-loop-paths g l = record {
  each : vec_len l.speakers + length l.paths-iterator.rest.items ≡ vec_len l.fn.clients.ends;
  past : All (λ speaker. speaker.past ≡ l.past) l.speakers.items;
}
