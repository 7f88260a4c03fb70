use Rattle.std.proofs.Common.{◌≡◌, ◌++◌, flat_map, take}
use Rattle.ssb_formats.specs.Cells.{are_numbers, heads_of}
use Rattle.ssb_formats.specs.HtmlText.{head_html, hundredths, row_html}
use Rattle.ssb_formats.specs.Markup.{markup}
use Rattle.ssb_formats.specs.declared.markup.Markup.TheVariants.{TableOpen}
use Rattle.ssb_formats.proofs.html_text.push_table.Given as goal

abbrev pub invariant-loop-row : goal.invariant-loop-row
invariant-loop-row l =
    l.text.items ≡ ((l.fn.text.items ++ markup TableOpen)
    ++ head_html (are_numbers l.query l.plan) (heads_of l.query l.plan))
    ++ flat_map (row_html (are_numbers l.query l.plan) l.query (hundredths l.rows)) (take l.row-index l.rows)
