use Rattle.std.proofs.Common.{◌≡◌, List, ◌++◌, length, map}
use Rattle.std.specs.Vec.Iter.{into_iter_items}
use Rattle.history.specs.Members.{number_of}
use Rattle.ssb_report.specs.Replies.{Reply}
use Rattle.ssb_script.specs.Requests.{RequestRecord, request_of, requests_of}
use Rattle.stream_sessions.specs.OneRequest.{AreAlike}
use Rattle.stream_sessions.specs.Served.{AreServed}
use Rattle.stream_sessions.specs.WithPast.{replies_told}
use Rattle.stream_sessions.proofs.answer.report.Given as goal

-- the first things were served, their replies were added, and the others are left
abbrev pub invariant-loop-request : goal.invariant-loop-request
invariant-loop-request g l =
    (front : List RequestRecord)
    × (given : List Reply)
    × (requests_of l.fn.script ≡ front ++ map request_of (into_iter_items l.requests))
    × AreServed (number_of l.fn.client.who) l.fn.client front given l.client
    × (l.replies.items ≡ l.fn.replies.items ++ replies_told l.manner.format l.manner.terms.past given)
    × AreAlike l.fn.client l.client

abbrev pub decreases-loop-request : goal.decreases-loop-request
decreases-loop-request g l = length (into_iter_items l.requests)
