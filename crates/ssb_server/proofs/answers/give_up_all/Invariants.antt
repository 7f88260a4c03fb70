use Rattle.std.proofs.Common.{◌≡◌, ◌+◌, ℕ, length}
use Rattle.history_core.specs.declared.dispatcher.Outcome.TheVariants.{GivenUp}
use Rattle.ssb_server.specs.Hand.{Keeps}
use Rattle.ssb_server.specs.Turns.{Gave}
use Rattle.ssb_server.proofs.answers.give_up_all.Given as goal

abbrev pub invariant-loop-client : goal.invariant-loop-client
invariant-loop-client g l = record {
  given : ℕ;
  total : given + length l.batch.clients ≡ length l.initial.batch.clients;
  gave : Gave l.initial.token given (GivenUp l.cause) l.token;
  keeps : Keeps l.batch l.token.grabbed;
}

abbrev pub decreases-loop-client : goal.decreases-loop-client
decreases-loop-client g l = length l.batch.clients
