use Rattle.std.proofs.Common.{take, flat_map}
use Rattle.std.specs.Io.KnownBytes.{Appends}
use Rattle.ssb_trace.specs.TraceText.{told_text}
use Rattle.ssb_trace.proofs.answers.write_answers.Given as goal

abbrev pub invariant-loop-told : goal.invariant-loop-told
invariant-loop-told g l =
    Appends (g.W.Write.contents l.fn.writer) (g.W.Write.contents l.writer)
    (flat_map told_text (take l.told-index l.answers))
