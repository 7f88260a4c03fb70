use Rattle.std.proofs.Common.{◌≡◌, [], ◌∷◌, ◌++◌, flat_map, take}
use Rattle.ssb_formats.specs.MarkdownText.{byte_text}
use Rattle.ssb_formats.proofs.markdown_text.push_cell.Given as goal

abbrev pub invariant-loop-byte : goal.invariant-loop-byte
invariant-loop-byte l =
    l.text.items ≡ (l.fn.text.items ++ 32 ∷ []) ++ flat_map byte_text (take l.byte-index l.bytes)
