-- The sums are those over the lines so far, and so many lines can make them.
use Rattle.std.proofs.Common.{take}
use Rattle.ssb_answers.specs.Combination.{combinations}
use Rattle.ssb_schema.specs.Facts.{facts_of}
use Rattle.ssb_answers.specs.Totals.{AreTotals, SumsWithin}
use Rattle.ssb_answers.proofs.evaluator.totals_of.Given as goal

abbrev pub invariant-loop-line : goal.invariant-loop-line
invariant-loop-line l = record {
  totals : AreTotals l.plan (combinations l.plan l.base.dimensions (facts_of (take l.line-index l.lines))) l.totals;
  within : SumsWithin l.line-index l.totals;
}
