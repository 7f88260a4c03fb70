use Rattle.std.proofs.Common.{ap, sym, ◌∙◌}
use Rattle.history.specs.Tokens.{TableRecord}
use Rattle.ssb_report.specs.OverviewText.{overview_of}
use Rattle.stream_sessions.proofs.AnswerLaws.{adds_looked_up}
use Rattle.stream_sessions.proofs.answer.look_up.Goals as goal

pub returns-in-Ok : goal.returns-in-Ok
returns-in-Ok g c = λ number request client table asks.
    adds_looked_up number request client c.args.manner c.base.result.now c.args.asked
    (overview_of c.in_ok-overview.overview) _ _ asks (c.base.ensures ∙ ap (λ (t : TableRecord). t.base) (sym table))
    c.in_ok-overview.ensures c.in-Ok.ensures
