use Rattle.stream_sessions.proofs.WholeScriptLaws as law
use Rattle.stream_sessions.proofs.laws.replies_of_script.Goals as goal

pub returns : goal.returns
returns c = law.replies_of_script
