use Rattle.std.proofs.Common.{rules, ◌≡◌, ℕ, ◌+◌, ◌∷◌, Some, sym, ap, refl, subst, ◌∙◌}
use mathlib.Core.Option.{none}
use Rattle.atomic_table.specs.Table.{step, rest, Me, Allows}
use Rattle.history.specs.declared.view.View.{View}
use Rattle.history.specs.declared.view.SlotValue.TheVariants.{Answered}
use Rattle.history.specs.Rule.{Slot, ShowsWorld, terms_of}
use Rattle.history.specs.Plays.{Answers, served, request_at}
use Rattle.history.proofs.MailStepLaws.{serves}
use Rattle.history.proofs.steps.put_answer.Goals as goal

pub store-requires : goal.store-requires
store-requires g c = let base_of = g.W.Follower.base in let taken = g.W.Follower.commits in let key =
    terms_of c.args.ruled.now.shared.key in let slots = c.args.ruled.now.shared.table_id.slots in
    let v = c.args.seat.now.me.0 in let may = c.requires.answer in let word = 2 + c.args.client in let others =
    rest c.args.seat.now.me.1 in
    let me : Me (Slot g.row.W.Denot) View = (v, (word, Some (Answered c.args.answer)) ∷ others) in
    let now : c.exchange.new.seat.me ≡ me = c.exchange.ensures.3 in (
      search rules,
      search rules,
      subst (λ m. Allows (ShowsWorld base_of taken key) slots c.exchange.new.seat.id m word (λ _. 3)
          (λ _. Answers (step slots word 3 0 none) m 3))
          (sym now)
          (serves base_of taken key _ _ me c.args.place c.args.client may.0 c.args.answer others c.requires.token.0.0
          (c.requires.token.1, c.requires.token.0.1) may.1 refl may.3),
    )

pub returns : goal.returns
returns g c = let did = c.store.ensures in let put = c.exchange.ensures in let slot : ℕ × Slot g.row.W.Denot =
    (2 + c.args.client, Some (Answered c.args.answer)) in
    let front = ap (λ m. m.1) put.3 ∙ ap (λ cs. slot ∷ rest cs) (sym (ap (λ m. m.1) put.3)) in let told =
    did.2 c.args.client c.args.answer refl front in (
      (did.0 ∙ put.0, did.1 ∙ put.1, told.0 ∙ ap (λ m. (served m.0 c.args.client c.args.answer, rest m.1)) put.3),
      λ asked e. told.1 asked (ap (λ m. request_at c.args.client m.0.grabbed) put.3 ∙ e),
    )
