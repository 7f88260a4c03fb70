use Rattle.std.proofs.Common.{◌≡◌, ◌+◌, ◌++◌, length, vec_len, vec_capacity}
use Rattle.std.specs.Prelude.{All}
use Rattle.ssb_clients.specs.Tickets.{IsLeft}
use Rattle.ssb_server.proofs.tickets.gather_dispatchers.Given as goal

abbrev pub invariant-loop-dispatcher : goal.invariant-loop-dispatcher
invariant-loop-dispatcher g l = record {
  items : l.tokens.items ≡ l.initial.tokens.items ++ l.yielded;
  len : vec_len l.tokens ≡ vec_len l.initial.tokens + length l.yielded;
  capacity : vec_capacity l.tokens ≡ vec_capacity l.initial.tokens;
  left : All IsLeft l.yielded;
}
