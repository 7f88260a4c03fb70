use Rattle.stream_sessions.proofs.ExchangeLaws as law
use Rattle.stream_sessions.proofs.laws.conversation_tells_replies.Goals as goal

pub returns : goal.returns
returns c = law.conversation_tells_replies
