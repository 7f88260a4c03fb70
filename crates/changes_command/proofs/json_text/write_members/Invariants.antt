use Rattle.std.proofs.Common.{flat_map, length, map, take}
use Rattle.std.specs.Io.KnownBytes.{Appends}
use Rattle.std.specs.List.{zip}
use Rattle.ssb_schema.specs.Columns.{value_of}
use Rattle.changes_command.specs.JsonText.{member_heads, member_text}
use Rattle.changes_command.proofs.json_text.write_members.Given as goal

-- the members so far
abbrev pub invariant-loop-head : goal.invariant-loop-head
invariant-loop-head g l =
    Appends (g.W.Write.contents l.fn.out) (g.W.Write.contents l.out)
    (flat_map member_text (take (length l.yielded) (zip member_heads (map value_of l.cells))))
