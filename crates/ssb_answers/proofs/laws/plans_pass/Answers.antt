use Rattle.ssb_answers.proofs.TestedLaws as law
use Rattle.ssb_answers.proofs.laws.plans_pass.Goals as goal

pub returns-clause-plans : goal.returns-clause-plans
returns-clause-plans c = law.plans_pass

pub returns-clause-clauses : goal.returns-clause-clauses
returns-clause-clauses c = law.star_clauses_pass
