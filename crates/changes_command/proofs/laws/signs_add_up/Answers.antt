use Rattle.changes_command.proofs.SignLaws as signs
use Rattle.changes_command.proofs.laws.signs_add_up.Goals as goal

pub returns : goal.returns
returns c = signs.signs_add_up
