use Rattle.std.proofs.Common.{◌≡◌, take}
use Rattle.ssb_journal.specs.Heads.{head_text}
use Rattle.ssb_journal.proofs.head.head_of.Given as goal

abbrev pub invariant-loop-mark : goal.invariant-loop-mark
invariant-loop-mark l = l.head.items ≡ head_text l.form (take l.mark-index l.marks)
