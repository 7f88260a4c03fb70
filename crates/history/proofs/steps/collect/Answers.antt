use Rattle.std.proofs.Common.{rules, ◌≡◌, Some, ap}
use Rattle.history.specs.declared.view.SlotValue.TheVariants.{Answered}
use Rattle.history.specs.Rule.{terms_of}
use Rattle.history.proofs.MailStepLaws.{collects_one}
use Rattle.history.proofs.SplittingLaws.{in_front}
use Rattle.history.proofs.steps.collect.Goals as goal

pub compare_exchange-requires : goal.compare_exchange-requires
compare_exchange-requires g c = let base_of = g.W.Follower.base in let token = c.requires.token in (
  search rules,
  search rules,
  collects_one base_of g.W.Follower.commits (terms_of c.args.ruled.now.shared.key) _ _ _
      c.args.place token.0.0 (token.0.1, token.1),
)

pub exchange-value-requires : goal.exchange-value-requires
exchange-value-requires g c = let hit : c.compare_exchange.result ≡ 3 = search rules in let got =
    c.compare_exchange.ensures.2.0 hit c.args.place c.requires.token.0.0 in
    (search rules, (Some (Answered got.2), in_front _ _ _ (ap (λ m. m.1) got.3)))
