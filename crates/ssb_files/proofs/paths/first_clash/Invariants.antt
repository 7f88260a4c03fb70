use Rattle.ssb_files.specs.Paths.{AreApartUpTo}
use Rattle.ssb_files.proofs.paths.first_clash.Given as goal

-- no path so far clashes with one before it
abbrev pub invariant-loop-place : goal.invariant-loop-place
invariant-loop-place l = AreApartUpTo l.paths l.place
