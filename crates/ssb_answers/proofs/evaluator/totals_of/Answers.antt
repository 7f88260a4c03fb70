-- One line more adds its own combinations, and 134,217,728 lines cannot make a sum that passes an i64.
use Rattle.std.proofs.Common.{◌≡◌, ◌+◌, ◌∷◌, [], ◌++◌, ◌∙◌, List, take, ap, sym, subst, arith, rules}
use Rattle.std.specs.Prelude.{filter}
use Rattle.std.proofs.lemmas.Int.{ints}
use Rattle.std.proofs.lemmas.List.{take_more, map-append}
use Rattle.ssb_schema.specs.declared.line.LineFields.{LineFields}
use Rattle.ssb_answers.specs.Combination.{Combination, combinations, joined_with, passes}
use Rattle.ssb_schema.specs.Facts.{fact_of, facts_of}
use Rattle.ssb_answers.specs.Totals.{AreTotals}
use Rattle.ssb_answers.proofs.SumLaws.{combinations_push}
use Rattle.ssb_answers.proofs.evaluator.totals_of.Goals as goal

pub add_line-requires-clause-room : goal.add_line-requires-clause-room
add_line-requires-clause-room c = λ groups sum e.
    let within = c.loop-line.invariant.within groups sum e in
    (omega (arith, ints, within), omega (arith, ints, within))

pub loop-line-preserved : goal.loop-line-preserved
loop-line-preserved c =
    let plan = c.args.plan.now in
    let dimensions = c.args.base.now.dimensions in
    let i = c.loop-line.line-index in
    let line = c.line-item.result in
    let before = facts_of (take i c.args.lines.now) in
    let lines_are : take (i + 1) c.args.lines.now ≡ take i c.args.lines.now ++ line ∷ [] =
    take_more c.args.lines.now i line (search rules)
    ∙ ap (λ (x : LineFields). take i c.args.lines.now ++ x ∷ []) (sym c.line-item.is) in
    let facts_are : facts_of (take (i + 1) c.args.lines.now) ≡ before ++ fact_of line ∷ [] = ap facts_of lines_are
    ∙ map-append fact_of (take i c.args.lines.now) (line ∷ []) in
    let found_are : combinations plan dimensions (facts_of (take (i + 1) c.args.lines.now))
    ≡ combinations plan dimensions before ++ filter (passes plan) (joined_with dimensions (fact_of line)) =
    ap (combinations plan dimensions) facts_are ∙ combinations_push plan dimensions before (fact_of line) in
    record {
      totals = subst (λ (found : List Combination). AreTotals plan found c.add_line.new.totals) (sym found_are)
          (c.in_ok-add_line.ensures.totals (combinations plan dimensions before) c.loop-line.invariant.totals);
      within = c.in_ok-add_line.ensures.within i c.loop-line.invariant.within;
    }
