use Rattle.std.proofs.Common.{rules, ◌≡◌, ◌∷◌, Some, sym, refl, ap, subst, ◌∙◌}
use mathlib.Core.Option.{none}
use Rattle.atomic_table.specs.Table.{step, rest, Me, Allows}
use Rattle.history.specs.declared.view.View.{View}
use Rattle.history.specs.declared.view.SlotValue.TheVariants.{Writer}
use Rattle.history.specs.Rule.{Slot, ShowsWorld, terms_of}
use Rattle.history.specs.Plays.{PutsWriter, without_writer}
use Rattle.history.proofs.WriterStepLaws.{puts_writer_back}
use Rattle.history.proofs.steps.put_writer.Goals as goal

pub store-requires : goal.store-requires
store-requires g c = let base_of = g.W.Follower.base in let taken = g.W.Follower.commits in let key =
    terms_of c.args.ruled.now.shared.key in let slots = c.args.ruled.now.shared.table_id.slots in
    let me : Me (Slot g.row.W.Denot) View = (
      c.args.seat.now.me.0,
      (1, Some (Writer c.args.writer)) ∷ rest c.args.seat.now.me.1,
    ) in
    let now : c.exchange.new.seat.me ≡ me = c.exchange.ensures.3 in (
      search rules,
      search rules,
      subst (λ m. Allows (ShowsWorld base_of taken key) slots c.exchange.new.seat.id m 1 (λ _. 0)
          (λ _. PutsWriter base_of taken (step slots 1 0 0 none) m 0))
          (sym now) (puts_writer_back base_of taken key _ _ me c.args.place c.args.writer (rest c.args.seat.now.me.1)
          c.requires.token.0.0 c.requires.token.0.1 c.requires.token.1 refl c.requires.writer),
    )

pub returns : goal.returns
returns g c = let did = c.store.ensures in let put = c.exchange.ensures in
    (did.0 ∙ put.0, did.1 ∙ put.1, did.2 ∙ ap (λ m. (without_writer m.0, rest m.1)) put.3)
