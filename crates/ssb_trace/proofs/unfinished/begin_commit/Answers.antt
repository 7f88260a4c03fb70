use Rattle.std.proofs.Common.{ap, sym, ◌∙◌}
use Rattle.std.specs.Option.{option_map}
use Rattle.ssb_trace.specs.Lines.{Begin}
use Rattle.ssb_trace.proofs.CommitLaws.{takes_first}
use Rattle.ssb_trace.proofs.unfinished.begin_commit.Goals as goal

pub returns-in-Some-clause-step : goal.returns-in-Some-clause-step
returns-in-Some-clause-step c = (
  Begin c.in-Some.client,
  ap (option_map Begin) (sym c.client_of_commit.ensures ∙ c.in-Some.is),
  takes_first c.args.number c.in-Some.client c.from_vec.result (c.from_vec.ensures ∙ c.new.ensures.items),
)
