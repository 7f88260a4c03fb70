-- The markup of a page of HTML, which is the same whatever the answers are.
use Rattle.std.specs.Prelude.{ℕ, List, ◌++◌, codes}
use Rattle.ssb_formats.specs.declared.markup.Markup.{Markup}
use Rattle.ssb_formats.specs.declared.markup.Markup.TheVariants.{Page, LineOpen, LineClose, TableOpen, TableClose}
use Rattle.ssb_formats.specs.declared.markup.Markup.TheVariants.{HeadsOpen, HeadsClose, RowOpen, RowClose}
use Rattle.ssb_formats.specs.declared.markup.Markup.TheVariants.{BarOpen, BarWidth, BarClose}

abbrev pub style : List ℕ
style = codes "body{font:15px sans-serif;margin:2em auto;max-width:60em;padding:0 1em;color:#222}\n"
    ++ codes "h2{font-size:1.2em;margin:2em 0 0}\np{color:#667;margin:.3em 0}\n"
    ++ codes "table{border-collapse:collapse;width:100%}\n.h{font-weight:bold}\n"
    ++ codes "td{border-bottom:1px solid #e4e4ea;padding:.25em .8em .25em 0;white-space:nowrap}\n"
    ++ codes ".n{text-align:right}\n.b{width:50%}\nsvg{display:block}\n"
    ++ codes ".p{fill:#4477aa}\n.m{fill:#cc6677}\n"

-- the beginning of a page, which needs nothing from outside; HTML asks for no end of it
abbrev pub page_head : List ℕ
page_head = codes "<!DOCTYPE html>\n<html lang=\"en\">\n<meta charset=\"utf-8\">\n"
    ++ codes "<title>ssb_live</title>\n<style>\n" ++ style ++ codes "</style>\n"

unfoldable pub markup : Markup → List ℕ
markup Page = page_head
markup LineOpen = codes "<p>"
markup LineClose = codes "</p>\n"
markup TableOpen = codes "<table>\n"
markup TableClose = codes "</table>\n"
markup HeadsOpen = codes "<tr class=\"h\">"
markup HeadsClose = codes "<td></td></tr>\n"
markup RowOpen = codes "<tr>"
markup RowClose = codes "</tr>\n"
markup BarOpen = codes "<td class=\"b\"><svg width=\"100%\" height=\"14\"><rect class=\""
markup BarWidth = codes "\" height=\"14\" width=\""
markup BarClose = codes "%\"/></svg></td>"
