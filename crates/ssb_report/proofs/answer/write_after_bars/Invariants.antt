use Rattle.std.proofs.Common.{take, flat_map}
use Rattle.std.specs.Io.KnownBytes.{Appends}
use Rattle.ssb_report.specs.AnswerText.{value_text}
use Rattle.ssb_text.specs.Piece.{after_bar}
use Rattle.ssb_report.proofs.answer.write_after_bars.Given as goal

abbrev pub invariant-loop-value : goal.invariant-loop-value
invariant-loop-value g l =
    Appends (g.W.Write.contents l.fn.writer) (g.W.Write.contents l.writer)
    (flat_map (after_bar value_text) (take l.value-index l.groups))
