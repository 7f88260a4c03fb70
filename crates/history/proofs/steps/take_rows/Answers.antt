use Rattle.std.proofs.Common.{rules, ap, ◌∙◌}
use Rattle.history.specs.Rule.{rows, terms_of}
use Rattle.history.proofs.RowStepLaws.{tries_rows}
use Rattle.history.proofs.SplittingLaws.{in_front}
use Rattle.history.proofs.steps.take_rows.Goals as goal

pub fetch_or-found-requires : goal.fetch_or-found-requires
fetch_or-found-requires g c = let base_of = g.W.Follower.base in (
  search rules,
  search rules,
  tries_rows base_of g.W.Follower.commits (terms_of c.args.ruled.now.shared.key) _ _ _
      c.requires.token.0 (ap (λ m. m.0.role) c.loop.invariant.2 ∙ c.requires.token.1),
)

pub exchange-value-requires : goal.exchange-value-requires
exchange-value-requires g c = let took = c.fetch_or-found.ensures.2.0 c.if-found-eq0.true in
    (search rules, (rows c.loop.seat.me.0.terms.base took.0, in_front _ _ _ (ap (λ m. m.1) took.1)))
