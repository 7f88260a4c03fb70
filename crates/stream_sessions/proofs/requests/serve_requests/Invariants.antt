use Rattle.std.proofs.Common.{◌≡◌, List, ◌++◌, length, map}
use Rattle.std.specs.Option.{option_map}
use Rattle.std.specs.Vec.Iter.{into_iter_items}
use Rattle.ssb_script.specs.Requests.{RequestRecord, request_of, requests_of}
use Rattle.stream_sessions.specs.Served.{Serves}
use Rattle.stream_sessions.specs.OneRequest.{AreAlike}
use Rattle.history.specs.Members.{number_of}
use Rattle.stream_sessions.proofs.requests.serve_requests.Given as goal

-- the first requests were served, and the others are left
abbrev pub invariant-loop-request : goal.invariant-loop-request
invariant-loop-request g l =
    (front : List RequestRecord)
    × (requests_of l.fn.script ≡ front ++ map request_of (into_iter_items l.requests))
    × (length front ≡ l.done)
    × Serves (number_of l.fn.client.who) l.fn.client l.client front (option_map (λ kept. kept.items) l.fn.told)
    (option_map (λ kept. kept.items) l.told) (g.O.Write.contents l.fn.writer) (g.O.Write.contents l.writer)
    × AreAlike l.fn.client l.client

abbrev pub decreases-loop-request : goal.decreases-loop-request
decreases-loop-request g l = length (into_iter_items l.requests)
