use Rattle.std.proofs.Common.{◌≡◌, ◌++◌, flat_map, take}
use Rattle.ssb_formats.specs.Alignment.{aligned_line}
use Rattle.ssb_formats.specs.StatementBars.{bar_line}
use Rattle.ssb_formats.proofs.statement_bars.push_chart.Given as goal

abbrev pub invariant-loop-row : goal.invariant-loop-row
invariant-loop-row l =
    l.text.items ≡ (l.fn.text.items ++ aligned_line l.all l.heads) ++ flat_map (bar_line l.all l.scale) (take l.row-index l.rows)
