use Rattle.std.proofs.Common.{◌≡◌, take}
use Rattle.dimension_index.specs.Bitmaps.{bits_of}
use Rattle.dimension_index.proofs.index.DimIndex.bitmap.Given as goal

abbrev pub invariant-loop-test : goal.invariant-loop-test
invariant-loop-test l = l.bits.items ≡ bits_of l.self l.table (take l.test-index l.tests)
