use Rattle.std.proofs.Common.{◌≡◌, ◌++◌, flat_map, take}
use Rattle.ssb_formats.specs.Cells.{are_numbers, heads_of}
use Rattle.ssb_formats.specs.MarkdownText.{line_text, rule_text}
use Rattle.ssb_report.specs.AnswerText.{columns_of}
use Rattle.ssb_formats.proofs.markdown_text.markdown_text.Given as goal

abbrev pub invariant-loop-row : goal.invariant-loop-row
invariant-loop-row l =
    l.text.items ≡ (line_text (heads_of l.query l.plan) ++ rule_text (are_numbers l.query l.plan))
    ++ flat_map (λ row. line_text (columns_of l.query row)) (take l.row-index l.rows)
