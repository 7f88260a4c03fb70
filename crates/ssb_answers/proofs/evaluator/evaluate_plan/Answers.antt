-- The rows of the sums by group, sorted, are the answer.
use Rattle.std.proofs.Common.{◌∙◌, List, subst}
use Rattle.std.specs.Prelude.{IsPermutation}
use Rattle.ssb_answers.specs.declared.answer.ResultRow.{ResultRow}
use Rattle.ssb_answers.specs.Combination.{combinations}
use Rattle.ssb_schema.specs.Facts.{facts_of}
use Rattle.ssb_answers.proofs.RowLaws.{rows_from_entries, non_empty, distinct_from_ordered}
use Rattle.ssb_answers.proofs.evaluator.evaluate_plan.Goals as goal

pub returns : goal.returns
returns c =
    let plan = c.args.plan.now in
    let found = combinations plan c.args.base.now.dimensions (facts_of c.args.lines.now) in
    let grouped = non_empty plan.groups (λ none. c.if-len-eq0.false (c.len.ensures ∙ none)) in
    let moved = subst (λ (rows : List ResultRow). IsPermutation rows c.sort_rows.new.rows.items)
    c.in_ok-rows.ensures.rows c.in_ok-sort_rows.ensures.same_rows in
    rows_from_entries plan found c.in_ok-totals.totals.entries grouped.0 grouped.1 grouped.2
    (distinct_from_ordered c.in_ok-totals.totals.entries c.in_ok-rows.ensures.ordered)
    (λ groups. c.in_ok-totals.ensures groups) c.requires.ordered c.sort_rows.new.rows.items moved
    c.in_ok-sort_rows.ensures.sorted
