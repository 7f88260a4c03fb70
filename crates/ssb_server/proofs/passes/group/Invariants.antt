use Rattle.std.proofs.Common.{◌≡◌, ◌++◌, drop, length}
use Rattle.ssb_server.specs.Passes.{all_questions, grouped}
use Rattle.ssb_server.proofs.passes.group.Given as goal

-- the requests so far, and those of the rows that are left
abbrev pub invariant-loop-request : goal.invariant-loop-request
invariant-loop-request l = record {
  count : length l.rest.items ≡ length (all_questions (drop l.request-index l.requests));
  groups : l.found.items ++ grouped (drop l.request-index l.requests) l.rest.items
      ≡ grouped l.requests l.fn.rows.items;
}
