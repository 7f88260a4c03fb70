use Rattle.std.proofs.Common.{◌≡◌, map, take}
use Rattle.ssb_statements.specs.Listing.{is_number}
use Rattle.ssb_statements.proofs.listing.number_flags.Given as goal

abbrev pub invariant-loop-one : goal.invariant-loop-one
invariant-loop-one l = l.flags.items ≡ map (is_number l.groups) (take l.one-index l.shown)
