use Rattle.ssb_trace.proofs.AnsweredRowLaws as answered
use Rattle.ssb_trace.proofs.LegalTraceLaws as law
use Rattle.ssb_trace.proofs.round_trip.legal_traces_are_allowed.Goals as goal

pub returns : goal.returns
returns c = record { rows = answered.answers_have_allowed_rows; traces = law.legal_traces_are_allowed }
