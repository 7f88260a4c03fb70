use Rattle.std.proofs.Common.{◌≡◌, max, fold, take}
use Rattle.ssb_formats.specs.BarsText.{size_of}
use Rattle.ssb_formats.proofs.bar.greatest_of.Given as goal

abbrev pub invariant-loop-row : goal.invariant-loop-row
invariant-loop-row l = l.greatest ≡ fold (λ greatest row. max greatest (size_of row.sum)) 0 (take l.row-index l.rows)
