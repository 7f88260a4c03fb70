use Rattle.std.proofs.Common.{length}
use Rattle.std.specs.Prelude.{◌↔◌}
use Rattle.ssb_text.specs.TextLines.{IsPlainText}
use Rattle.ssb_text.proofs.plain.is_plain_text.Given as goal

-- the text is plain if what is left of it is
abbrev pub invariant-loop-at : goal.invariant-loop-at
invariant-loop-at l = IsPlainText l.rest ↔ IsPlainText l.fn.bytes

abbrev pub decreases-loop-at : goal.decreases-loop-at
decreases-loop-at l = length l.rest
