use Rattle.std.proofs.Common.{◌≡◌, false, length}
use Rattle.ssb_script.specs.Ahead.{AskFirst}
use Rattle.stream_sessions.specs.Ahead.{asked_ahead}
use Rattle.stream_sessions.specs.Course.{HasCome, course}
use Rattle.stream_sessions.specs.Exchange.{texts_taken}
use Rattle.stream_sessions.proofs.session.Session.answer_all.Given as goal

-- each request so far was answered, and the last replies are held
abbrev pub invariant-loop-answered : goal.invariant-loop-answered
invariant-loop-answered g l = record {
  come : HasCome (course l.fn.client l.fn.self) false (course l.client l.self);
  many : length (texts_taken l.self.wire.events) ≡ l.answered;
  ahead : AskFirst l.self.wire.at_hand (asked_ahead l.requests.ahead);
}
