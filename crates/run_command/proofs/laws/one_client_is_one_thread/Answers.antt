use Rattle.run_command.proofs.AloneLaws as law
use Rattle.run_command.proofs.laws.one_client_is_one_thread.Goals as goal

pub returns : goal.returns
returns c = law.one_client_is_one_thread
