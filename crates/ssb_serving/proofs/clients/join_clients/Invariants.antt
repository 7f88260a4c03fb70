use Rattle.std.proofs.Common.{◌+◌, ◌≤◌, map, length, vec_len, vec_capacity}
use Rattle.std.specs.List.{AllZip}
use Rattle.ssb_serving.proofs.clients.join_clients.Given as goal

abbrev pub invariant-loop-thread : goal.invariant-loop-thread
invariant-loop-thread g l = record {
  room : vec_len l.spoken + length l.thread-iterator.rest.items ≤ vec_capacity l.spoken;
  joined : AllZip g.T.Leaves.leaves (map (λ h. h.promise.seat.value) l.yielded) l.spoken.items;
}
