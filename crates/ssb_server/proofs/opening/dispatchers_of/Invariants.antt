use Rattle.std.proofs.Common.{◌≡◌, length}
use Rattle.std.specs.Prelude.{All}
use Rattle.ssb_base.specs.Base.{Tables}
use Rattle.ssb_server.specs.Opening.{IsNewDispatcher, IsNewReader}
use Rattle.ssb_server.proofs.opening.dispatchers_of.Given as goal

abbrev pub invariant-loop-token : goal.invariant-loop-token
invariant-loop-token g l = record {
  base : Tables;
  tokens : All (IsNewDispatcher base) l.token-iterator.rest.items;
  readers : All (IsNewReader base) l.readers.items;
  count : length l.readers.items ≡ length l.token-iterator.rest.items;
  made : l.dispatchers.items ≡ l.yielded;
}
