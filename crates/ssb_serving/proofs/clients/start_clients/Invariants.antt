use Rattle.std.proofs.Common.{◌≡◌, ◌+◌, ◌++◌, map, length, vec_len, vec_capacity}
use Rattle.std.specs.Prelude.{All}
use Rattle.ssb_clients.specs.Tickets.{IsQuiet}
use Rattle.ssb_serving.proofs.clients.start_clients.Given as goal

abbrev pub invariant-loop-seat : goal.invariant-loop-seat
invariant-loop-seat g l = record {
  seats : All (λ seat. IsQuiet l.server (g.T.Leaves.client seat)) l.seat-iterator.rest.items;
  count : vec_len l.speaking + length l.seat-iterator.rest.items ≡ vec_len l.initial.speaking + vec_len l.fn.seats;
  capacity : vec_capacity l.speaking ≡ vec_capacity l.initial.speaking;
  started : map (λ h. h.promise.seat.value) l.speaking.items ≡ map (λ h. h.promise.seat.value) l.initial.speaking.items
      ++ l.yielded;
}
