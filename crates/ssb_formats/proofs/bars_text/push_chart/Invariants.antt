use Rattle.std.proofs.Common.{◌≡◌, ◌++◌, flat_map, take}
use Rattle.ssb_formats.specs.Alignment.{aligned_line}
use Rattle.ssb_formats.specs.BarsText.{bar_line, label_heads}
use Rattle.ssb_formats.proofs.bars_text.push_chart.Given as goal

abbrev pub invariant-loop-row : goal.invariant-loop-row
invariant-loop-row l =
    l.text.items ≡ (l.fn.text.items ++ aligned_line l.alignments (label_heads l.plan))
    ++ flat_map (bar_line l.alignments l.scale) (take l.row-index l.rows)
