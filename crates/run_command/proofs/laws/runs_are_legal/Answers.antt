use Rattle.run_command.proofs.TraceLaws as law
use Rattle.run_command.proofs.laws.runs_are_legal.Goals as goal

pub returns : goal.returns
returns c = law.runs_are_legal
