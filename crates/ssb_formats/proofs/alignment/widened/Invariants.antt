use Rattle.std.proofs.Common.{◌≡◌, ◌++◌, drop}
use Rattle.ssb_formats.specs.Alignment.{widened}
use Rattle.ssb_formats.proofs.alignment.widened.Given as goal

-- the columns so far, and those that are left
abbrev pub invariant-loop-place : goal.invariant-loop-place
invariant-loop-place l =
    l.all.items ++ widened (drop l.place l.alignments) (drop l.place l.cells) ≡ widened l.alignments l.cells
