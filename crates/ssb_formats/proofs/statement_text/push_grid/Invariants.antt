use Rattle.std.proofs.Common.{◌≡◌, ◌++◌, flat_map, take}
use Rattle.ssb_formats.specs.Alignment.{aligned_line}
use Rattle.ssb_report.specs.StatementText.{texts_of}
use Rattle.ssb_formats.specs.TableText.{rule_text}
use Rattle.ssb_formats.proofs.statement_text.push_grid.Given as goal

abbrev pub invariant-loop-row : goal.invariant-loop-row
invariant-loop-row l =
    l.text.items ≡ (l.fn.text.items ++ aligned_line l.alignments l.heads ++ rule_text l.alignments)
    ++ flat_map (λ row. aligned_line l.alignments (texts_of row)) (take l.row-index l.rows)
