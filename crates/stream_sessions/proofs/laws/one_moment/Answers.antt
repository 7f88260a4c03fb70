use Rattle.stream_sessions.proofs.MomentLaws.{one_moment}
use Rattle.stream_sessions.proofs.laws.one_moment.Goals as goal

pub returns : goal.returns
returns c = one_moment
