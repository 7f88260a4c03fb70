use Rattle.ssb_sql.proofs.MeaningLaws as law
use Rattle.ssb_sql.proofs.laws.readings_of_a_text_agree.Goals as goal

pub returns : goal.returns
returns c = law.one_meaning
