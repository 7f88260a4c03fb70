use Rattle.std.proofs.Common.{◌≡◌, take}
use Rattle.dimension_index.specs.Classes.{extent_of}
use Rattle.dimension_index.proofs.classes.extent_of.Given as goal

abbrev pub invariant-loop-class : goal.invariant-loop-class
invariant-loop-class l = l.most ≡ extent_of (take l.class-index l.classes)
