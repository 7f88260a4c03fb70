use Rattle.std.proofs.Common.{rules, ◌≡◌, ℕ, ◌+◌, ◌∷◌, Some, refl, sym, ap, subst, ◌∙◌}
use mathlib.Core.Option.{none}
use Rattle.atomic_table.specs.Table.{step, rest, Me, Allows}
use Rattle.history.specs.declared.view.View.{View}
use Rattle.history.specs.declared.view.SlotValue.TheVariants.{Asked}
use Rattle.history.specs.Rule.{Slot, ShowsWorld, terms_of}
use Rattle.history.specs.Plays.{Posts, posted}
use Rattle.history.proofs.MailStepLaws.{posts}
use Rattle.history.proofs.steps.post.Goals as goal

pub store-requires : goal.store-requires
store-requires g c = let base_of = g.W.Follower.base in let taken = g.W.Follower.commits in let key =
    terms_of c.args.ruled.now.shared.key in let slots = c.args.ruled.now.shared.table_id.slots in
    let v = c.args.seat.now.me.0 in let mail = c.requires.mailbox in let word = 2 + c.args.place in
    let me : Me (Slot g.row.W.Denot) View = (v, (word, Some (Asked c.args.request)) ∷ rest c.args.seat.now.me.1) in
    let now : c.exchange.new.seat.me ≡ me = c.exchange.ensures.3 in (
      search rules,
      search rules,
      subst (λ m. Allows (ShowsWorld base_of taken key) slots c.exchange.new.seat.id m word (λ _. 1)
          (λ _. Posts (step slots word 1 0 none) m 1))
          (sym now) (posts base_of taken key _ _ me c.args.place c.args.request (rest c.args.seat.now.me.1)
          c.requires.token.0 (c.requires.token.1, mail.0, mail.1) refl c.requires.floor),
    )

pub returns : goal.returns
returns g c = let did = c.store.ensures in let put = c.exchange.ensures in let slot : ℕ × Slot g.row.W.Denot =
    (2 + c.args.place, Some (Asked c.args.request)) in
    let front = ap (λ m. m.1) put.3 ∙ ap (λ cs. slot ∷ rest cs) (sym (ap (λ m. m.1) put.3)) in (
      did.0 ∙ put.0,
      did.1 ∙ put.1,
      did.2 c.args.place c.args.request front
          ∙ ap (λ m. (posted m.0 c.args.request, rest m.1)) put.3,
    )
