use Rattle.ssb_text.specs.Parsing.{IsParsedOk}
use Rattle.ssb_text.proofs.AheadLaws.{AllZip-map}
use Rattle.ssb_text.proofs.ahead.step.Goals as goal

pub returns-clause-step : goal.returns-clause-step
returns-clause-step g c =
    let old = c.args.reading in
    let ahead = rw c.in_ok-joined.was at c.join-parsed.ensures.second.0 in
    let parsed = rw c.in-Ok.is at c.join-parsed.ensures.first in
    record {
      few = ahead.few;
      joins = ahead.joins;
      gives = ahead.gives;
      parsed = AllZip-map (λ b. b.bytes.items) IsParsedOk _ c.in-Ok.parsed.items parsed;
    }
