use Rattle.std.proofs.Common.{◌≡◌, ◌++◌, flat_map, take}
use Rattle.ssb_formats.specs.MarkdownText.{line_text, rule_text}
use Rattle.ssb_report.specs.StatementText.{texts_of}
use Rattle.ssb_formats.proofs.statement_text.markdown_text.Given as goal

abbrev pub invariant-loop-row : goal.invariant-loop-row
invariant-loop-row l =
    l.text.items ≡ (line_text l.heads.heads.now ++ rule_text l.heads.are_numbers.now)
    ++ flat_map (λ row. line_text (texts_of row)) (take l.row-index l.rows)
