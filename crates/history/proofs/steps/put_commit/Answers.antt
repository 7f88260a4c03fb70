use Rattle.std.proofs.Common.{rules, ◌≡◌, ◌+◌, ◌%◌, ◌^◌, ◌∷◌, Some, sym, ap, subst, ◌∙◌}
use mathlib.Core.Option.{none}
use Rattle.atomic_table.specs.Table.{step, rest, Me, Allows}
use Rattle.history.specs.declared.view.View.{View}
use Rattle.history.specs.declared.view.SlotValue.TheVariants.{Rows}
use Rattle.history.specs.Words.{store}
use Rattle.history.specs.Rule.{Slot, ShowsWorld, terms_of}
use Rattle.history.specs.Plays.{PutsRows, gave_back, log_carried}
use Rattle.history.proofs.RowStepLaws.{puts_commit}
use Rattle.history.proofs.steps.put_commit.Goals as goal

pub fetch_add-requires : goal.fetch_add-requires
fetch_add-requires g c = let base_of = g.W.Follower.base in let taken = g.W.Follower.commits in let key =
    terms_of c.args.ruled.now.shared.key in let slots = c.args.ruled.now.shared.table_id.slots in
    let same_base = c.requires.rows.0 in let adds = c.requires.rows.1 in
    let me : Me (Slot g.row.W.Denot) View = (
      c.args.seat.now.me.0,
      (0, Some (Rows c.args.rows)) ∷ rest c.args.seat.now.me.1,
    ) in
    let now : c.exchange.new.seat.me ≡ me = c.exchange.ensures.3 in (
      search rules,
      search rules,
      subst (λ m. Allows (ShowsWorld base_of taken key) slots c.exchange.new.seat.id m 0 (λ n. (n + 1) % 2 ^ 64)
          (PutsRows (step slots 0 1 0 none) m))
          (sym now)
          (puts_commit base_of taken key _ _ me adds.1 adds.0 (rest c.args.seat.now.me.1) adds.2 c.requires.token.0
          (λ i. (0, Some (Rows (store (same_base i) (adds.6 i)))) ∷ rest c.args.seat.now.me.1)
          (adds.3, adds.4, adds.5)),
    )

pub returns : goal.returns
returns g c = let did = c.fetch_add.ensures in let put = c.exchange.ensures in
    (did.0 ∙ put.0, did.1 ∙ put.1, did.2 ∙ ap (λ m. (gave_back m.0 (log_carried m.1), rest m.1)) put.3)
