use Rattle.std.proofs.Common.{◌≡◌, ◌+◌, ℕ, length}
use Rattle.history_core.specs.declared.dispatcher.Outcome.TheVariants.{Served}
use Rattle.ssb_server.specs.Hand.{Keeps}
use Rattle.ssb_server.specs.Turns.{answers_after, Gave}
use Rattle.ssb_server.proofs.answers.give_rows.Given as goal

abbrev pub invariant-loop-client : goal.invariant-loop-client
invariant-loop-client g l = record {
  given : ℕ;
  total : given + length l.batch.clients ≡ length l.initial.batch.clients;
  gave : Gave l.initial.token given (Served l.at) l.token;
  keeps : Keeps l.batch l.token.grabbed;
  rows : l.rows.items ≡ answers_after l.initial.token.table.base l.initial.token.seen l.batch.requests;
}

abbrev pub decreases-loop-client : goal.decreases-loop-client
decreases-loop-client g l = length l.batch.clients
