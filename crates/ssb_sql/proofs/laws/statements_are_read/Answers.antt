use Rattle.ssb_sql.proofs.ReadLaws as law
use Rattle.ssb_sql.proofs.laws.statements_are_read.Goals as goal

pub returns : goal.returns
returns c = law.statements_read
