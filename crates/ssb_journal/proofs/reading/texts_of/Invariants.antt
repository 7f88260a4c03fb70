use Rattle.std.specs.List.{AllZip}
use Rattle.ssb_journal.proofs.BatchLaws.{IsUnsealed}
use Rattle.ssb_journal.proofs.reading.texts_of.Given as goal

abbrev pub invariant-loop-text : goal.invariant-loop-text
invariant-loop-text g l = IsUnsealed l.groups l.texts.items l.text-iterator.rest.items
