use Rattle.std.proofs.Common.{rules}
use Rattle.ssb_journal.proofs.HeadLaws.{no_title}
use Rattle.ssb_journal.proofs.head.HeadForm.of.Goals as goal

pub returns : goal.returns
returns c = no_title c.args.text.now (search rules) (search rules)
