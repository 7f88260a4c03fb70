use Rattle.std.proofs.Common.{take}
use Rattle.ssb_text.specs.TextLines.{HasNoLineEnd}
use Rattle.ssb_script.proofs.pieces.line_length.Given as goal

abbrev pub invariant-loop-at : goal.invariant-loop-at
invariant-loop-at l = HasNoLineEnd (take l.at l.bytes)
