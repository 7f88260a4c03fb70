use Rattle.std.proofs.Common.{◌≡◌, ℕ, List, ◌++◌, length}
use Rattle.ssb_script.specs.Taking.{IsOpen}
use Rattle.ssb_script.proofs.at_hand.request_length.Given as goal

-- the lines before what is left were begun and have no end yet
abbrev pub invariant-loop-count : goal.invariant-loop-count
invariant-loop-count l = (front : List ℕ) × (l.fn.bytes ≡ front ++ l.rest) × IsOpen l.begun front

abbrev pub decreases-loop-count : goal.decreases-loop-count
decreases-loop-count l = length l.rest
