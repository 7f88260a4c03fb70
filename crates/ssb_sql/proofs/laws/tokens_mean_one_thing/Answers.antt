use Rattle.ssb_sql.proofs.OneLaws as law
use Rattle.ssb_sql.proofs.laws.tokens_mean_one_thing.Goals as goal

pub returns : goal.returns
returns c = law.mean_one
