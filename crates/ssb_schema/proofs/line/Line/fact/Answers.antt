use Rattle.ssb_schema.specs.Views.{line_view}
use Rattle.ssb_schema.proofs.LimitLaws.{fact_within, line_within}
use Rattle.ssb_schema.proofs.line.Line.fact.Goals as goal

pub returns-clause-limits : goal.returns-clause-limits
returns-clause-limits c = rw (← c.self.view_is) (line_within (line_view c.self.inside) c.self.invariant)

pub returns-clause-ranges : goal.returns-clause-ranges
returns-clause-ranges c = fact_within (line_view c.self.inside) (line_within (line_view c.self.inside) c.self.invariant)
