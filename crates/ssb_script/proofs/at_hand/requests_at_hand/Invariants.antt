use Rattle.std.proofs.Common.{◌≤◌, length}
use Rattle.ssb_script.proofs.AheadLaws.{AreFirst}
use Rattle.ssb_script.proofs.at_hand.requests_at_hand.Given as goal

-- so many requests stand before what is left
abbrev pub invariant-loop-count : goal.invariant-loop-count
invariant-loop-count l = AreFirst l.fn.bytes l.count l.rest × (length l.rest ≤ length l.fn.bytes)
