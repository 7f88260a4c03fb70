use Rattle.ssb_statements.proofs.StarLaws as law
use Rattle.ssb_statements.proofs.laws.questions_are_of_star.Goals as goal

pub returns : goal.returns
returns c = law.of_star
