use Rattle.std.proofs.Common.{rules}
use Rattle.stream_sessions.proofs.AnswerLaws.{has_refresh_of}
use Rattle.stream_sessions.proofs.answer.has_refresh.Goals as goal

pub returns : goal.returns
returns c = search (rules, has_refresh_of c.args.script.now.requests.items)
