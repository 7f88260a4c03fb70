use Rattle.std.proofs.Common.{rules, ◌≡◌, ◌+◌, ◌∷◌, Some, None, ap, sym, refl, ◌∙◌}
use Rattle.atomic_table.specs.Table.{rest}
use Rattle.history.specs.declared.view.SlotValue.TheVariants.{Asked}
use Rattle.history.specs.Rule.{terms_of}
use Rattle.history.specs.Plays.{grabbed}
use Rattle.history.proofs.MailStepLaws.{grabs_one}
use Rattle.history.proofs.SplittingLaws.{in_front, same_front}
use Rattle.history.proofs.steps.grab.Goals.{in_default-via-in-Some+in_default, in_default-via-in_default}
use Rattle.history.proofs.steps.grab.Goals as goal

pub compare_exchange-requires : goal.compare_exchange-requires
compare_exchange-requires g c = let base_of = g.W.Follower.base in let token = c.requires.token in (
  search rules,
  search rules,
  grabs_one base_of g.W.Follower.commits (terms_of c.args.ruled.now.shared.key) _ _ _
      c.args.place c.args.client token.0.0 (token.1, token.0.1),
)

pub exchange-value-requires : goal.exchange-value-requires
exchange-value-requires g c = let hit : c.compare_exchange.result ≡ 1 = search rules in let got =
    c.compare_exchange.ensures.2.0 hit c.args.client refl in
    (search rules, (Some (Asked got.0), in_front _ _ _ (ap (λ m. m.1) got.1)))

pub unreachable-requires : goal.unreachable-requires
unreachable-requires g c = let hit : c.compare_exchange.result ≡ 1 = search rules in let got =
    c.compare_exchange.ensures.2.0 hit c.args.client refl in
    let held : c.exchange-value.result ≡ Some (Asked got.0) =
    same_front _ _ _ _ _ (sym c.exchange-value.ensures.2 ∙ ap (λ m. m.1) got.1) in
    elim c.in_default.branch [
      | in_default-via-in-Some+in_default w ↦ search rules
      | in_default-via-in_default w ↦ search rules
    ]

pub returns : goal.returns
returns g c = let hit : c.compare_exchange.result ≡ 1 = search rules in let got =
    c.compare_exchange.ensures.2.0 hit c.args.client refl in
    let held : c.exchange-value.result ≡ Some (Asked got.0) =
    same_front _ _ _ _ _ (sym c.exchange-value.ensures.2 ∙ ap (λ m. m.1) got.1) in
    let same : c.in-Some-Asked.request ≡ got.0 = search rules in let took = c.exchange-value.ensures in (
      (
        took.0 ∙ c.compare_exchange.ensures.0,
        took.1 ∙ c.compare_exchange.ensures.1,
        took.3 ∙ (ap (λ m. (m.0, (2 + c.args.client, None) ∷ rest m.1)) got.1
            ∙ ap (λ r. (grabbed c.args.seat.now.me.0 c.args.client r, (2 + c.args.client, None) ∷ c.args.seat.now.me.1))
            (sym same)),
      ),
      got.2,
    )
