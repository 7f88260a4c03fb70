use Rattle.std.proofs.Common.{take, flat_map}
use Rattle.std.specs.Io.KnownBytes.{Appends}
use Rattle.changes_command.specs.SignedText.{signed_text}
use Rattle.changes_command.proofs.writing.write_order.Given as goal

abbrev pub invariant-loop-place : goal.invariant-loop-place
invariant-loop-place g l =
    Appends (g.W.Write.contents l.fn.out) (g.W.Write.contents l.out)
    (flat_map (signed_text l.format l.commit l.sign) (take l.place l.order))
