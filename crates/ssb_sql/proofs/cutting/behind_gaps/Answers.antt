use Rattle.std.proofs.Common.{length, rules, sym}
use Rattle.ssb_sql.proofs.CutLaws.{gaps_end, gaps_more, gaps_none}
use Rattle.ssb_sql.proofs.cutting.behind_gaps.Goals as goal

pub loop-number-preserved : goal.loop-number-preserved
loop-number-preserved c = record {
  text = search rules;
  told = gaps_more (length c.args.text.now) c.loop-number._number _ _ _ c.loop-number-test.true (sym c.in-Some.ensures)
      c.loop-number.invariant.told;
}

pub returns-in-None : goal.returns-in-None
returns-in-None c =
    gaps_none (length c.args.text.now) c.loop-number._number _ _ (sym c.in-None.ensures) c.loop-number.invariant.told

pub returns : goal.returns
returns c =
    gaps_end (length c.args.text.now) c.loop-number._number _ _ c.loop-number-test.false c.loop-number.invariant.told
