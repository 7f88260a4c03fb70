use Rattle.std.proofs.Common.{◌≡◌, ℕ, List, length, sym, ap, subst, ◌∙◌, arith}
use Rattle.std.specs.List.{All}
use Rattle.std.proofs.lemmas.List.Sums.{fold_more}
use Rattle.std.proofs.lemmas.List.Elements.{All-same, All-take, All-drop}
use Rattle.ssb_schema.specs.declared.refresh.Action.{Action}
use Rattle.ssb_schema.specs.declared.line.LineFields.{LineFields}
use Rattle.row_store.specs.State.{counts_after_action}
use Rattle.fact_columns.specs.Classed.{IsPlaceOf}
use Rattle.fact_columns.specs.Coded.{counts_at, key_of}
use Rattle.fact_columns.proofs.PlaceLaws.{live_few}
use Rattle.fact_columns.proofs.CodingLaws.{codes_cut}
use Rattle.fact_columns.proofs.orders.apply_actions.Goals as goal

pub apply_action-freed-requires : goal.apply_action-freed-requires
apply_action-freed-requires g c =
    let so_far = c.loop-action.invariant in
    let dimensions = c.requires.dimensions in
    record {
      room = omega (arith, so_far.room, c.split_at.ensures.front_len, c.split_at.ensures.back_len);
      small = omega (arith, so_far.len, c.requires.small, c.split_at.ensures.front_len, c.split_at.ensures.back_len);
      spare = omega (arith, so_far.spare);
      dimensions = dimensions;
      coded = (codes_cut dimensions c.args.actions.now c.loop-action.action-index c.action-item.result
          c.loop-action.rest.now c.split_at.result.0.now c.split_at.result.1.now (length c.added.result.now)
          c.loop-action-test.true c.action-item.is (ap length c.added.ensures.lines) c.split_at.ensures.front
          c.split_at.ensures.back (so_far.coded dimensions c.requires.coded)).0;
      alike = subst (λ (lines : List LineFields). All (λ line. line.order_key ≡ key_of c.action-item.result) lines)
          c.added.ensures.lines c.added.ensures.alike;
      spanned = so_far.spanned;
      behind = omega (arith, ap length so_far.loaded, so_far.longer, c.requires.behind);
    }

pub overflow_add-freed : goal.overflow_add-freed
overflow_add-freed g c = omega (
  arith,
  c.apply_action-freed.ensures.count,
  c.loop-action.invariant.count,
  live_few c.args.table.now.places,
  c.requires.small,
  c.split_at.ensures.front_len,
  c.split_at.ensures.back_len,
)

pub loop-action-preserved : goal.loop-action-preserved
loop-action-preserved g c =
    let so_far = c.loop-action.invariant in
    let i : ℕ = c.loop-action.action-index in
    let actions : List Action = c.args.actions.now in
    let action : Action = c.action-item.result in
    let n : ℕ = length c.added.result.now in
    record {
      coded = λ dimensions codes. (codes_cut dimensions actions i action c.loop-action.rest.now c.split_at.result.0.now
          c.split_at.result.1.now n
          c.loop-action-test.true c.action-item.is (ap length c.added.ensures.lines) c.split_at.ensures.front
          c.split_at.ensures.back (so_far.coded dimensions codes)).1;
      counts = λ dimensions codes.
          let front = (codes_cut dimensions actions i action c.loop-action.rest.now c.split_at.result.0.now
          c.split_at.result.1.now n
          c.loop-action-test.true c.action-item.is (ap length c.added.ensures.lines) c.split_at.ensures.front
          c.split_at.ensures.back (so_far.coded dimensions codes)).0 in
          c.apply_action-freed.ensures.counts dimensions front
          ∙ ap (λ m. counts_after_action m action) (so_far.counts dimensions codes)
          ∙ ap (counts_after_action _) c.action-item.is
          ∙ sym (fold_more counts_after_action (counts_at dimensions c.args.table.now.places) actions i action
          c.loop-action-test.true);
      inside = λ dimensions fresh all. c.apply_action-freed.ensures.inside dimensions
          (All-same (IsPlaceOf dimensions) _ _ c.split_at.ensures.front
          (All-take (IsPlaceOf dimensions) n c.loop-action.rest.now (so_far.left dimensions fresh)))
          (so_far.inside dimensions fresh all);
      left = λ dimensions fresh. All-same (IsPlaceOf dimensions) _ _ c.split_at.ensures.back
          (All-drop (IsPlaceOf dimensions) n c.loop-action.rest.now (so_far.left dimensions fresh));
      spanned = c.apply_action-freed.ensures.spanned;
      loaded = c.apply_action-freed.ensures.loaded ∙ so_far.loaded;
      longer = omega (arith, c.apply_action-freed.ensures.longer, so_far.longer);
      watched = λ base follows. c.apply_action-freed.ensures.watched base (so_far.watched base follows);
      count = omega (
        arith,
        c.apply_action-freed.ensures.count,
        so_far.count,
        c.split_at.ensures.front_len,
        c.split_at.ensures.back_len,
      );
      room = omega (
        arith,
        c.apply_action-freed.ensures.room,
        so_far.room,
        c.split_at.ensures.front_len,
        c.split_at.ensures.back_len,
      );
      len = omega (
        arith,
        c.apply_action-freed.ensures.len,
        so_far.len,
        c.split_at.ensures.front_len,
        c.split_at.ensures.back_len,
      );
      spare = omega (arith, c.apply_action-freed.ensures.spare, so_far.spare);
    }
