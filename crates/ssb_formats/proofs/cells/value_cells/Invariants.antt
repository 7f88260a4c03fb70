use Rattle.std.proofs.Common.{◌≡◌, map, take}
use Rattle.ssb_report.specs.AnswerText.{value_text}
use Rattle.ssb_formats.proofs.cells.value_cells.Given as goal

abbrev pub invariant-loop-value : goal.invariant-loop-value
invariant-loop-value l = l.cells.items ≡ map value_text (take l.value-index l.values)
