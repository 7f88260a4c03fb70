use Rattle.std.proofs.Common.{◌≡◌, ◌++◌, flat_map, take}
use Rattle.ssb_formats.specs.HtmlText.{head_html}
use Rattle.ssb_formats.specs.Markup.{markup}
use Rattle.ssb_formats.specs.StatementHtml.{hundredths, row_html}
use Rattle.ssb_formats.specs.declared.markup.Markup.TheVariants.{TableOpen}
use Rattle.ssb_formats.proofs.statement_html.push_table.Given as goal

abbrev pub invariant-loop-row : goal.invariant-loop-row
invariant-loop-row l =
    l.text.items ≡ ((l.fn.text.items ++ markup TableOpen) ++ head_html l.heads.are_numbers.now l.heads.heads.now)
    ++ flat_map (row_html l.heads.are_numbers.now (hundredths l.rows)) (take l.row-index l.rows)
