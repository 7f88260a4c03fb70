use Rattle.ssb_sql.proofs.SaidLaws as law
use Rattle.ssb_sql.proofs.laws.statements_say_their_groups.Goals as goal

pub returns : goal.returns
returns c = law.say_groups
