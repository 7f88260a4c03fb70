use Rattle.std.proofs.Common.{◌<◌, ◌∙◌, ap, arith, get_or, length}
use Rattle.std.proofs.lemmas.List.{get_or_default, length-set}
use Rattle.fact_columns.proofs.LaidLaws.{all_laid, lay_more, lies_within}
use Rattle.fact_columns.proofs.place_columns.lay.Goals as goal

pub index_mut-requires : goal.index_mut-requires
index_mut-requires g c =
    let laid = c.requires.laid in
    omega (
      arith,
      lies_within c.args.places.now laid.numbers laid.layout c.loop-number.number c.loop-number-test.true,
      c.loop-number.invariant.long,
      c.loop-number.spare.ok,
    )

pub loop-number-preserved : goal.loop-number-preserved
loop-number-preserved g c =
    let places = c.args.places.now in
    let spare = c.loop-number.spare.items in
    let number = c.loop-number.number in
    let x = c.index.result.now in
    let column = c.args.column.now in
    let here : number < length column.items = omega (arith, c.loop-number-test.true, c.requires.long, column.ok) in
    record {
      long = length-set spare (get_or places number 0) x ∙ c.loop-number.invariant.long;
      laid = λ n other below. lay_more places column.items spare number x other c.requires.laid
          c.loop-number-test.true c.loop-number.invariant.long
          (c.index.ensures ∙ get_or_default column.items number x other here)
          (λ m before. c.loop-number.invariant.laid m other before) n below;
    }

pub returns-clause-laid : goal.returns-clause-laid
returns-clause-laid g c = λ numbers other is.
    let places = c.args.places.now in
    let spare = c.loop-number.spare.items in
    ap (λ v. v.items) c.swap.ensures.x_after ∙ all_laid places numbers c.args.column.now.items spare other is
    c.loop-number.invariant.long (λ n within. c.loop-number.invariant.laid n other
    (omega (arith, within, c.loop-number-test.false)))
