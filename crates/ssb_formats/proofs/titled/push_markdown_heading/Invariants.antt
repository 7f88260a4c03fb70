use Rattle.std.proofs.Common.{◌≡◌, ◌++◌, codes, flat_map, take}
use Rattle.ssb_formats.specs.Titled.{title_byte}
use Rattle.ssb_formats.proofs.titled.push_markdown_heading.Given as goal

abbrev pub invariant-loop-byte : goal.invariant-loop-byte
invariant-loop-byte l =
    l.text.items ≡ (l.fn.text.items ++ codes "## ") ++ flat_map title_byte (take l.byte-index l.bytes)
