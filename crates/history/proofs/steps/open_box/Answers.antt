use Rattle.std.proofs.Common.{rules}
use Rattle.history.specs.Rule.{terms_of}
use Rattle.history.proofs.MailStepLaws.{opens_box}
use Rattle.history.proofs.steps.open_box.Goals as goal

pub load-requires : goal.load-requires
load-requires g c = let base_of = g.W.Follower.base in let token = c.requires.token in (
  search rules,
  search rules,
  opens_box base_of g.W.Follower.commits (terms_of c.args.ruled.now.shared.key) _ _ _
      c.args.place 0 token.0.0 (token.0.1, token.1),
)
