use Rattle.std.proofs.Common.{arith, sym, ◌∙◌}
use Rattle.dimension_index.proofs.KeyLaws.{position_found, position_within}
use Rattle.dimension_index.proofs.index.position.Goals as goal

pub overflow_cast-result : goal.overflow_cast-result
overflow_cast-result g c = omega (
  arith,
  c.requires.few,
  position_within g.F.Keyed.key_of c.args.dimension.now c.args.key c.in-Some.place c.in-Some.ensures.row
      c.in-Some.ensures.found,
)

pub returns-in-Some : goal.returns-in-Some
returns-in-Some g c =
    sym c.in-Some.is
    ∙ position_found g.F.Keyed.key_of c.args.dimension.now c.args.key c.position.result c.requires.distinct
    c.position.ensures.row c.position.ensures.found

pub returns-in-None : goal.returns-in-None
returns-in-None g c =
    sym c.in-None.is
    ∙ position_found g.F.Keyed.key_of c.args.dimension.now c.args.key c.position.result c.requires.distinct
    c.position.ensures.row c.position.ensures.found
