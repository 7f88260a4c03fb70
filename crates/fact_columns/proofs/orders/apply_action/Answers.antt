use Rattle.std.proofs.Common.{◌≡◌, length, sym, ap, ◌∙◌, arith, ⊎_elim}
use Rattle.std.proofs.lemmas.Grind.{common_steps}
use Rattle.std.proofs.lemmas.List.{length-map}
use Rattle.ssb_schema.specs.declared.refresh.Action.{Action}
use Rattle.ssb_schema.specs.Facts.{facts_of}
use Rattle.ssb_schema.specs.Orders.{order_key}
use Rattle.row_store.specs.Lines.{added_by}
use Rattle.row_store.proofs.ReplacedLaws.{replaced_added, replaced_counts}
use Rattle.fact_columns.specs.Coded.{counts_at, key_of}
use Rattle.fact_columns.specs.Places.{fact_at}
use Rattle.fact_columns.proofs.CodingLaws.{codes_own}
use Rattle.fact_columns.proofs.orders.apply_action.Goals as goal

pub add-requires : goal.add-requires
add-requires g c =
    let action = c.args.action.now in
    record {
      room = c.requires.room;
      small = c.requires.small;
      spare = c.requires.spare;
      live = c.requires.coded.lives;
      own = λ k d within. codes_own c.requires.dimensions (added_by action) c.args.lines.now (key_of action)
          c.requires.coded c.requires.alike k d within ∙ ap key_of c.in-Add.is ∙ sym c.key.ensures;
      spanned = c.requires.spanned;
      behind = c.requires.behind;
    }

pub add-requires-in-Amend : goal.add-requires-in-Amend
add-requires-in-Amend g c =
    let action = c.args.action.now in
    let key : key_of action ≡ order_key c.in-Amend.order =
    ⊎_elim (λ is. ap key_of is) (λ is. ap key_of is) c.in-Amend.is in
    record {
      room = omega (arith, c.withdraw-freed.ensures.room, c.requires.room);
      small = omega (arith, c.withdraw-freed.ensures.len, c.requires.small);
      spare = omega (arith, c.withdraw-freed.ensures.spare, c.requires.spare);
      live = c.requires.coded.lives;
      own = λ k d within. codes_own c.requires.dimensions (added_by action) c.args.lines.now (key_of action)
          c.requires.coded c.requires.alike k d within ∙ key ∙ sym c.key-in-Amend-2.ensures;
      spanned = c.withdraw-freed.ensures.spanned;
      behind = omega (
        arith,
        ap length c.withdraw-freed.ensures.loaded,
        c.withdraw-freed.ensures.len,
        c.requires.behind,
      );
    }

pub returns-in-Amend : goal.returns-in-Amend
returns-in-Amend g c = record {
  spanned = c.add-in-Amend.ensures.spanned;
  watched = λ base follows. c.add-in-Amend.ensures.watched base (c.withdraw-freed.ensures.watched base follows);
  counts = λ dimensions codes. grind (
    arith,
    common_steps,
    c.withdraw-freed.ensures.counts dimensions,
    c.add-in-Amend.ensures.counts dimensions,
    codes.read,
    replaced_added c.args.action.now c.in-Amend.order c.in-Amend.is,
    replaced_counts (counts_at dimensions c.args.table.now.places) c.args.action.now c.in-Amend.order c.in-Amend.is,
  );
  count = omega (arith, c.add-in-Amend.ensures.count, c.withdraw-freed.ensures.count);
  inside = λ dimensions fresh all. c.add-in-Amend.ensures.inside dimensions fresh
      (c.withdraw-freed.ensures.inside dimensions all);
  len = omega (arith, c.add-in-Amend.ensures.len, c.withdraw-freed.ensures.len);
  room = omega (arith, c.add-in-Amend.ensures.room, c.withdraw-freed.ensures.room);
  spare = omega (arith, c.add-in-Amend.ensures.spare, c.withdraw-freed.ensures.spare);
  loaded = c.add-in-Amend.ensures.loaded ∙ c.withdraw-freed.ensures.loaded;
  longer = omega (arith, c.add-in-Amend.ensures.longer, c.withdraw-freed.ensures.len);
}

pub returns-in-Withdraw : goal.returns-in-Withdraw
returns-in-Withdraw g c =
    let lines = c.args.lines.now in
    let none : length lines ≡ 0 = sym (length-map lines (fact_at c.requires.dimensions))
    ∙ ap length c.requires.coded.read ∙ ap (λ (a : Action). length (facts_of (added_by a))) c.in-Withdraw.is in
    record {
      spanned = c.withdraw.ensures.spanned;
      watched = c.withdraw.ensures.watched;
      counts = λ dimensions codes. grind (arith, common_steps, c.withdraw.ensures.counts dimensions);
      count = omega (arith, none, c.withdraw.ensures.count);
      inside = λ dimensions fresh all. c.withdraw.ensures.inside dimensions all;
      len = omega (arith, c.withdraw.ensures.len);
      room = omega (arith, c.withdraw.ensures.room);
      spare = omega (arith, c.withdraw.ensures.spare);
      loaded = c.withdraw.ensures.loaded;
      longer = omega (arith, c.withdraw.ensures.len);
    }
