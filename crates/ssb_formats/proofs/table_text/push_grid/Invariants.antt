use Rattle.std.proofs.Common.{◌≡◌, ◌++◌, flat_map, take}
use Rattle.ssb_formats.specs.Alignment.{aligned_line}
use Rattle.ssb_formats.specs.Cells.{heads_of}
use Rattle.ssb_formats.specs.TableText.{rule_text}
use Rattle.ssb_report.specs.AnswerText.{columns_of}
use Rattle.ssb_formats.proofs.table_text.push_grid.Given as goal

abbrev pub invariant-loop-row : goal.invariant-loop-row
invariant-loop-row l =
    l.text.items ≡ (l.fn.text.items ++ aligned_line l.alignments (heads_of l.query l.plan) ++ rule_text l.alignments)
    ++ flat_map (λ row. aligned_line l.alignments (columns_of l.query row)) (take l.row-index l.rows)
