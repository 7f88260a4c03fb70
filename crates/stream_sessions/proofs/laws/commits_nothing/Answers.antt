use Rattle.stream_sessions.proofs.ReadingLaws as law
use Rattle.stream_sessions.proofs.laws.commits_nothing.Goals as goal

pub returns : goal.returns
returns c = law.commits_nothing
