use Rattle.ssb_statements.proofs.SideLaws as law
use Rattle.ssb_statements.proofs.laws.statements_are_their_questions.Goals as goal

pub returns : goal.returns
returns c = law.sides
