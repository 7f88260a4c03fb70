use Rattle.std.proofs.Common.{◌≡◌, ◌+◌, ◌++◌, length, vec_len, vec_capacity}
use Rattle.std.specs.Prelude.{All}
use Rattle.ssb_clients.specs.Tickets.{IsResting}
use Rattle.ssb_clients.proofs.tickets.gather_clients.Given as goal

abbrev pub invariant-loop-client : goal.invariant-loop-client
invariant-loop-client g l = record {
  items : l.tokens.items ≡ l.initial.tokens.items ++ l.yielded;
  len : vec_len l.tokens ≡ vec_len l.initial.tokens + length l.yielded;
  capacity : vec_capacity l.tokens ≡ vec_capacity l.initial.tokens;
  rest : All IsResting l.yielded;
}
