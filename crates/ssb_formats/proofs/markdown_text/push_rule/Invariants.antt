use Rattle.std.proofs.Common.{◌≡◌, [], ◌∷◌, ◌++◌, flat_map, take}
use Rattle.ssb_formats.specs.MarkdownText.{rule_cell}
use Rattle.ssb_formats.proofs.markdown_text.push_rule.Given as goal

abbrev pub invariant-loop-is_number : goal.invariant-loop-is_number
invariant-loop-is_number l =
    l.text.items ≡ (l.fn.text.items ++ 124 ∷ []) ++ flat_map rule_cell (take l.is_number-index l.are_numbers)
