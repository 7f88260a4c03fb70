use Rattle.std.proofs.Common.{◌≡◌, [], ◌∷◌, ◌++◌, flat_map, take}
use Rattle.ssb_formats.specs.MarkdownText.{cell_text}
use Rattle.ssb_formats.proofs.markdown_text.push_line.Given as goal

abbrev pub invariant-loop-cell : goal.invariant-loop-cell
invariant-loop-cell l =
    l.text.items ≡ (l.fn.text.items ++ 124 ∷ []) ++ flat_map cell_text (take l.cell-index l.cells)
