use Rattle.std.proofs.Common.{◌≡◌, fold, map, take}
use Rattle.ssb_formats.specs.Alignment.{narrow, widened}
use Rattle.ssb_report.specs.StatementText.{texts_of}
use Rattle.ssb_formats.proofs.statement_cells.alignments.Given as goal

abbrev pub invariant-loop-row : goal.invariant-loop-row
invariant-loop-row l =
    l.all.items ≡ fold (λ all row. widened all (texts_of row))
    (widened (map narrow l.heads.are_numbers.now) l.heads.heads.now) (take l.row-index l.rows)
