use Rattle.run_command.proofs.AloneLaws as law
use Rattle.run_command.proofs.laws.alone_is_one_thread.Goals as goal

pub returns-clause-sees : goal.returns-clause-sees
returns-clause-sees c = law.alone_sees_its_own

pub returns-clause-whole : goal.returns-clause-whole
returns-clause-whole c = law.alone_is_one_thread

pub returns-clause-broken : goal.returns-clause-broken
returns-clause-broken c = law.alone_ends_as_one_thread
