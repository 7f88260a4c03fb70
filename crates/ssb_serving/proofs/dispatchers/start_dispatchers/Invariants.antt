use Rattle.std.proofs.Common.{◌≡◌, ◌+◌, ◌++◌, map, length, vec_len, vec_capacity}
use Rattle.std.specs.Prelude.{All}
use Rattle.ssb_clients.specs.Tickets.{IsOf}
use Rattle.ssb_serving.proofs.dispatchers.start_dispatchers.Given as goal

abbrev pub invariant-loop-dispatcher : goal.invariant-loop-dispatcher
invariant-loop-dispatcher g l = record {
  tasks : All (IsOf l.server) l.dispatcher-iterator.rest.items;
  count : vec_len l.dispatching + length l.dispatcher-iterator.rest.items ≡ vec_len l.initial.dispatching
      + vec_len l.fn.dispatchers;
  capacity : vec_capacity l.dispatching ≡ vec_capacity l.initial.dispatching;
  started : map (λ h. h.promise.dispatcher.value) l.dispatching.items ≡ map (λ h. h.promise.dispatcher.value)
      l.initial.dispatching.items ++ l.yielded;
}
