use Rattle.std.proofs.Common.{refl}
use Rattle.journal_tests.proofs.NewJournalLaws.{new_keeps_none}
use Rattle.journal_tests.proofs.tests.runs.new_journal.Goals as goal

pub returns-in-Ok : goal.returns-in-Ok
returns-in-Ok g c = new_keeps_none c.args.marks.now (c.in-Ok.ensures.made refl)
