use Rattle.std.proofs.Common.{arith}
-- Counts and sums over the lines, by group number, are dense totals.
use Rattle.std.proofs.Common.{ℕ, ◌≡◌, ◌<◌, List, length, subst, ◌∙◌}
use Rattle.std.specs.Prelude.{ℤ}
use Rattle.std.specs.List.{AllByRecursion}
use Rattle.ssb_base.specs.Base.{Tables, IsSound, IsKnown}
use Rattle.ssb_schema.specs.Facts.{facts_of}
use Rattle.ssb_schema.specs.declared.fact.Fact.{Fact}
use Rattle.ssb_schema.specs.declared.line.LineFields.{LineFields}
use Rattle.ssb_questions.specs.Members.{Has}
use Rattle.ssb_questions.specs.declared.plan.Measure.{Measure}
use Rattle.ssb_questions.specs.declared.plan.Measure.TheVariants.{PriceTimesDiscount, Revenue, Profit, Quantity}
use Rattle.ssb_questions.specs.declared.plan.Measure.TheVariants.{ExtendedPrice, SupplyCost, Lines}
use Rattle.ssb_questions.specs.declared.plan.Plan.{Plan}
use Rattle.ssb_questions.specs.declared.value.Value.{Value}
use Rattle.ssb_answers.specs.Combination.{Combination, combinations}
use Rattle.scan_kernel.specs.Groups.{ListValues, AreApart, size_of, counts_of, group_values, group_number}
use Rattle.scan_kernel.specs.Lines.{AreOfLines}
use Rattle.scan_kernel.specs.Dense.{AreDenseTotals, AnswersAll, total}
use Rattle.std.proofs.lemmas.List.Elements.{recursion_from_All}
use Rattle.ssb_questions.specs.Queries.{plan_over}
use Rattle.ssb_questions.specs.declared.query.Query.{Query}
use Rattle.ssb_answers.specs.declared.answer.ResultRow.{ResultRow}
use Rattle.scan_kernel.specs.Scan.{line_sum, taken, AnswersLines}
use Rattle.scan_kernel.proofs.LineLaws.{groups_are_of_lines}
use Rattle.scan_kernel.proofs.GroupLaws.{codes_number_groups, groups_are_apart}

sum_of_lines : (measure : Measure) (found : List Combination) (facts : List Fact) → AreOfLines found facts
    → total measure found ≡ line_sum measure facts
sum_of_lines PriceTimesDiscount found facts h = h.discounts
sum_of_lines Revenue found facts h = h.revenues
sum_of_lines Profit found facts h = h.profits
sum_of_lines Quantity found facts h = h.quantities
sum_of_lines ExtendedPrice found facts h = h.prices
sum_of_lines SupplyCost found facts h = h.costs
sum_of_lines Lines found facts h = h.lines

pub scan_makes_totals : (blank : Combination) (plan : Plan) (base : Tables) (lines : List LineFields)
    (columns : List (List Value)) (count : ℕ → ℕ) (sum : ℕ → ℤ)
    → IsSound base → AllByRecursion (IsKnown base.dimensions) lines
    → AllByRecursion AreApart columns
    → ((c : Combination) → Has (combinations plan base.dimensions (facts_of lines)) c
    → ListValues plan.groups columns c)
    → ((g : ℕ) → g < size_of (counts_of columns) → count g ≡ length
    (taken blank plan base lines (group_number plan.groups columns) g))
    → ((g : ℕ) → g < size_of (counts_of columns) → sum g ≡ line_sum plan.measure
    (taken blank plan base lines (group_number plan.groups columns) g))
    → AreDenseTotals plan (combinations plan base.dimensions (facts_of lines)) (group_number plan.groups columns)
    (size_of (counts_of columns)) (group_values columns) count sum
scan_makes_totals blank plan base lines columns count sum sound known apart codes counts sums = grind (arith, codes_number_groups, groups_are_apart, groups_are_of_lines, sum_of_lines)

-- rows that are right for any combinations with these totals answer the question over any lines with these counts and
-- sums
pub answers_lines : (question : Query × List Value) (plan : Plan) (columns : List (List Value)) (size : ℕ)
    (count : ℕ → ℕ) (sum : ℕ → ℤ) (rows : List ResultRow)
    → plan ≡ plan_over question.0 question.1 → size ≡ size_of (counts_of columns)
    → AnswersAll plan size (group_values columns) count sum rows → AnswersLines question columns count sum rows
answers_lines question plan columns size count sum rows is size_is all blank base lines sound known apart codes counts
    sums =
    let asked : Plan = plan_over question.0 question.1 in
    let right : AnswersAll asked (size_of (counts_of columns)) (group_values columns) count sum rows =
    subst (λ (p : Plan). AnswersAll p (size_of (counts_of columns)) (group_values columns) count sum rows) is
    (subst (λ (n : ℕ). AnswersAll plan n (group_values columns) count sum rows) size_is all) in
    right (combinations asked base.dimensions (facts_of lines)) (group_number asked.groups columns)
    (scan_makes_totals blank asked base lines columns count sum sound
    (recursion_from_All (IsKnown base.dimensions) lines known) apart codes counts sums)
