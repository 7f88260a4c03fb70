use Rattle.std.proofs.Common.{◌∙◌, sym}
use Rattle.history.specs.Members.{number_of}
use Rattle.ssb_script.specs.Requests.{requests_of}
use Rattle.stream_sessions.proofs.AnswerLaws.{not_both, not_false}
use Rattle.stream_sessions.proofs.answer.report_taken.Goals as goal
use Rattle.stream_sessions.proofs.answer.report_taken.Goals.{then-manner, else-manner}

pub returns-else-not-has_refresh-clause-answered : goal.returns-else-not-has_refresh-clause-answered
returns-else-not-has_refresh-clause-answered g c = λ request spelled. elim c.if-manner.branch [
  | then-manner w ↦
      absurd (not_both c.if-manner.value (w.value-is ∙ w.if-manner.true) c.if-not-has_refresh.false)
  | else-manner w ↦
      let refused = not_false w.has_refresh.result (sym w.value-is ∙ c.if-not-has_refresh.false) in
      c.refuse_refresh.ensures (number_of c.args.client.now.who) request (requests_of c.args.script) c.args.client.now
      spelled (sym w.has_refresh.ensures ∙ refused) w.if-manner.false
]
