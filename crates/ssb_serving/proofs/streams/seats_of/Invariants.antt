use Rattle.std.proofs.Common.{◌≡◌, ◌++◌, map, length}
use Rattle.std.specs.Vec.Iter.{into_iter_items}
use Rattle.ssb_serving.proofs.streams.seats_of.Given as goal

abbrev pub invariant-loop-client : goal.invariant-loop-client
invariant-loop-client g l = record {
  clients : map (λ seat. seat.client) l.seats.items ≡ l.yielded;
  speakers : map (λ seat. seat.speaker) l.seats.items ++ into_iter_items l.speakers ≡ l.fn.speakers.items;
  count : length l.client-iterator.rest.items ≡ length (into_iter_items l.speakers);
}
