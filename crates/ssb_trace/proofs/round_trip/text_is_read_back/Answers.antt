use Rattle.ssb_trace.proofs.TraceLaws as law
use Rattle.ssb_trace.proofs.round_trip.text_is_read_back.Goals as goal

pub returns : goal.returns
returns c = record { spells = law.spells_its_trace; no_other = law.spells_no_other }
