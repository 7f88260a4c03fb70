use Rattle.std.proofs.Common.{ℕ, Bool, not, eqb}
use Rattle.scan_kernel.specs.Plan.{active_mask_at}
use Rattle.scan_kernel.specs.Tables.{masks_of}
use Rattle.scan_kernel.proofs.SearchLaws.{FoundUpTo}
use Rattle.scan_kernel.proofs.search.find_places.Given as goal

-- a `bool` parameter, which is given as a number
abbrev is : ℕ → Bool
is parameter = not (eqb parameter 0)

abbrev pub invariant-loop-at : goal.invariant-loop-at
invariant-loop-at g l = FoundUpTo (active_mask_at l.lines (masks_of (is g.row.C) (is g.row.S) (is g.row.P)
    (is g.row.D) l.tables) l.tables.active) l.initial.at l.at l.count l.places l.found
