use Rattle.std.proofs.Common.{rules, ◌≤◌, Some, ap, sym, subst, ◌∙◌}
use Rattle.history.specs.declared.view.SlotValue.TheVariants.{Writer}
use Rattle.history.specs.Rule.{terms_of}
use Rattle.history.proofs.WriterStepLaws.{tries_writer}
use Rattle.history.proofs.SplittingLaws.{in_front}
use Rattle.history.proofs.steps.take_writer.Goals as goal

pub compare_exchange-requires : goal.compare_exchange-requires
compare_exchange-requires g c = let base_of = g.W.Follower.base in let same = c.loop.invariant.2 in (
  search rules,
  search rules,
  tries_writer base_of g.W.Follower.commits (terms_of c.args.ruled.now.shared.key) _ _ _
      c.args.place (ap (λ m. m.0.role) same ∙ c.requires.token.0)
      (subst (λ m. m.0.terms.clients ≤ c.args.place) (sym same) c.requires.token.1),
)

pub exchange-value-requires : goal.exchange-value-requires
exchange-value-requires g c = let got = c.compare_exchange.ensures.2.0 c.if-compare_exchange-eq0.true in
    (search rules, (Some (Writer got.0), in_front _ _ _ (ap (λ m. m.1) got.2)))
