use Rattle.std.proofs.Common.{take}
use Rattle.ssb_text.proofs.RecordTextLaws.{IsPlainField}
use Rattle.ssb_text.proofs.direct.field_length.Given as goal

abbrev pub invariant-loop-at : goal.invariant-loop-at
invariant-loop-at l = IsPlainField (take l.at l.text)
