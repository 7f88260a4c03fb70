use Rattle.std.proofs.Common.{◌≡◌, max, fold, take}
use Rattle.ssb_formats.specs.BarsText.{size_of}
use Rattle.ssb_formats.specs.StatementBars.{drawn_of}
use Rattle.ssb_formats.proofs.statement_bars.greatest_of.Given as goal

abbrev pub invariant-loop-row : goal.invariant-loop-row
invariant-loop-row l =
    l.greatest ≡ fold (λ greatest row. max greatest (size_of (drawn_of row))) 0 (take l.row-index l.rows)
