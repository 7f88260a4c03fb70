use Rattle.std.proofs.Common.{rules}
use Rattle.history.specs.Rule.{terms_of}
use Rattle.history.proofs.RowStepLaws.{looks}
use Rattle.history.proofs.steps.look.Goals as goal

pub load-requires : goal.load-requires
load-requires g c = let base_of = g.W.Follower.base in (
  search rules,
  search rules,
  looks base_of g.W.Follower.commits (terms_of c.args.ruled.now.shared.key) _ _ _
      c.requires.token.0 c.requires.token.1,
)

pub returns : goal.returns
returns g c = let did = c.load.ensures.2 in (did.0, did.3, (c.load.ensures.0, c.load.ensures.1, did.1), did.2)
