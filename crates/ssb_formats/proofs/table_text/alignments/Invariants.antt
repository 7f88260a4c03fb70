use Rattle.std.proofs.Common.{◌≡◌, fold, map, take}
use Rattle.ssb_formats.specs.Alignment.{narrow, widened}
use Rattle.ssb_formats.specs.Cells.{are_numbers, heads_of}
use Rattle.ssb_report.specs.AnswerText.{columns_of}
use Rattle.ssb_formats.proofs.table_text.alignments.Given as goal

abbrev pub invariant-loop-row : goal.invariant-loop-row
invariant-loop-row l =
    l.all.items ≡ fold (λ alignments row. widened alignments (columns_of l.query row))
    (widened (map narrow (are_numbers l.query l.plan)) (heads_of l.query l.plan)) (take l.row-index l.rows)
