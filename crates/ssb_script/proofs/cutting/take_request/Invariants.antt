use Rattle.std.proofs.Common.{◌≤◌, ◌-◌, length}
use Rattle.std.specs.Io.KnownBytes.{Consumes}
use Rattle.ssb_script.specs.Taking.{IsOpen}
use Rattle.ssb_script.proofs.cutting.take_request.Given as goal

abbrev pub invariant-loop-request : goal.invariant-loop-request
invariant-loop-request g l = record {
  within : length l.request.items ≤ l.limit;
  taken : Consumes (g.R.Read.remaining l.fn.reader) (g.R.Read.remaining l.reader) l.request.items;
  begun : IsOpen l.begun l.request.items;
}

abbrev pub decreases-loop-request : goal.decreases-loop-request
decreases-loop-request g l = l.limit - length l.request.items
