use Rattle.std.proofs.Common.{rules, ◌≡◌, ℕ, ◌+◌, ◌<◌, List, take, drop, length, get_or, nat_eq, refl, sym, ap, ◌∙◌}
use Rattle.std.proofs.Common.{subst, arith}
use Rattle.std.specs.HashMap.{get}
use Rattle.std.proofs.lemmas.List.Sums.{fold_more}
use Rattle.std.proofs.lemmas.Grind.{common_steps}
use Rattle.std.proofs.lemmas.Option.{slice_get_read}
use Rattle.std.proofs.lemmas.List.Elements.{All-pop}
use Rattle.ssb_schema.specs.declared.line.LineFields.{LineFields}
use Rattle.ssb_schema.specs.declared.refresh.Action.{Action}
use Rattle.row_store.specs.Lines.{added_by, lines_of, lines_after_action, lines_after_refresh}
use Rattle.row_store.specs.Refusals.{first_refusal}
use Rattle.row_store.specs.Keyed.{order_at, Lies, Located}
use Rattle.row_store.proofs.CauseLaws.{none_refused-next}
use Rattle.row_store.proofs.PlacedLaws.{order_at-action}
use Rattle.row_store.proofs.place.place_all.Goals as goal

pub loop-i-preserved : goal.loop-i-preserved
loop-i-preserved c =
    let i : ℕ = c.loop-i.i in
    let actions : List Action = c.args.actions.now in
    let left = All-pop (λ share. share.value ≡ actions) c.loop-i.shares.items c.pop.new.self.items c.pop.result
    c.pop.ensures.items c.loop-i.invariant.alike in
    record {
      each = λ base sources lines number before none.
          let action : Action = c.index-actions-i.result in
          let was = c.loop-i.invariant.each base sources lines number before none in
          let here : i < length actions = omega arith in
          let item : action ≡ get_or actions i action = c.index-actions-i.is in
          let now : List LineFields = lines_after_refresh lines (take i actions) in
          let two = none_refused-next base (number + i) lines actions i action here item was.1 in
          let next : lines_after_refresh lines (take (i + 1) actions) ≡ lines_after_action now action =
          fold_more lines_after_action lines actions i action here ∙ ap (lines_after_action now) (sym item) in
          let alike : c.in-Some.refresh.value ≡ actions = rw c.in-Some.is at left.1 in
          let found : order_at c.in-Some.refresh.value i ≡ added_by action =
          ap (λ a. order_at a i) alike
          ∙ order_at-action actions i action (slice_get_read actions (length actions) i action refl here item) in
          let located : Located sources (get nat_eq c.put.new.orders) (lines_after_action now action) =
          c.put.ensures.each base sources now found tt was.0 two.0 in
          let more : (number + i) + 1 ≡ number + (i + 1) = omega arith in (
            λ key. subst (λ s. Lies sources (get nat_eq c.put.new.orders key) (lines_of key s)) (sym next) (located key),
            ap (λ n. first_refusal base n (lines_after_refresh lines (take (i + 1) actions)) (drop (i + 1) actions))
                (sym more) ∙ ap (λ s. first_refusal base ((number + i) + 1) s (drop (i + 1) actions)) next ∙ two.1,
          );
      room = search rules;
      left = search rules;
      alike = left.0;
    }

pub returns : goal.returns
returns c base sources lines number before none key =
    let actions : List Action = c.args.actions.now in
    let whole : take c.loop-i.i actions ≡ actions = grind (arith, common_steps) in
    subst (λ a. Lies sources (get nat_eq c.loop-i.orders key) (lines_of key (lines_after_refresh lines a))) whole
    ((c.loop-i.invariant.each base sources lines number before none).0 key)
