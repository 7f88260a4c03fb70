-- The end of the scan: counts and sums over the lines that pass, by group number, give the answer.
use Rattle.std.specs.Prelude.{ℕ, ℤ, pos, ◌≡◌, ◌<◌, ◌-ℤ◌, All, List, length, filter}
use Rattle.std.specs.List.{sum_by, AllByRecursion}
use Rattle.ssb_base.specs.Base.{Tables, IsSound, IsKnown}
use Rattle.ssb_schema.specs.Facts.{facts_of}
use Rattle.ssb_schema.specs.declared.fact.Fact.{Fact}
use Rattle.ssb_schema.specs.declared.line.LineFields.{LineFields}
use Rattle.ssb_questions.specs.Members.{Has}
use Rattle.ssb_questions.specs.declared.plan.Measure.{Measure}
use Rattle.ssb_questions.specs.declared.plan.Measure.TheVariants.{PriceTimesDiscount, Revenue, Profit, Quantity}
use Rattle.ssb_questions.specs.declared.plan.Measure.TheVariants.{ExtendedPrice, SupplyCost, Lines}
use Rattle.ssb_questions.specs.declared.plan.Plan.{Plan}
use Rattle.ssb_questions.specs.declared.value.Value.{Value}
use Rattle.ssb_questions.specs.Queries.{plan_over}
use Rattle.ssb_questions.specs.declared.query.Query.{Query}
use Rattle.ssb_answers.specs.Answer.{answer_of}
use Rattle.ssb_answers.specs.declared.answer.ResultRow.{ResultRow}
use Rattle.ssb_answers.specs.Combination.{Combination, combinations}
use Rattle.scan_kernel.specs.Groups.{ListValues, AreApart, size_of, counts_of, group_values, group_number}
use Rattle.scan_kernel.specs.Lines.{takes, price_times_discount, price, revenue, cost, quantity}
use Rattle.scan_kernel.specs.Dense.{AreDenseTotals}

-- what the lines sum up to
abbrev pub line_sum : Measure → List Fact → ℤ
line_sum PriceTimesDiscount facts = pos (sum_by price_times_discount facts)
line_sum Revenue facts = pos (sum_by revenue facts)
line_sum Profit facts = pos (sum_by revenue facts) -ℤ pos (sum_by cost facts)
line_sum Quantity facts = pos (sum_by quantity facts)
line_sum ExtendedPrice facts = pos (sum_by price facts)
line_sum SupplyCost facts = pos (sum_by cost facts)
line_sum Lines facts = pos (length facts)

abbrev pub taken : Combination → Plan → Tables → List LineFields → (Combination → ℕ) → ℕ → List Fact
taken blank plan base lines number g = filter (takes plan blank base.dimensions number g) (facts_of lines)

-- counts and sums over the lines, by group number, are dense totals of the combinations
abbrev pub ScanMakesTotals : Type 0
ScanMakesTotals =
    (blank : Combination) (plan : Plan) (base : Tables) (lines : List LineFields) (columns : List (List Value))
    (count : ℕ → ℕ) (sum : ℕ → ℤ)
    → IsSound base → All (IsKnown base.dimensions) lines
    → AllByRecursion AreApart columns
    → ((c : Combination) → Has (combinations plan base.dimensions (facts_of lines)) c
    → ListValues plan.groups columns c)
    → ((g : ℕ) → g < size_of (counts_of columns)
    → count g ≡ length (taken blank plan base lines (group_number plan.groups columns) g))
    → ((g : ℕ) → g < size_of (counts_of columns)
    → sum g ≡ line_sum plan.measure (taken blank plan base lines (group_number plan.groups columns) g))
    → AreDenseTotals plan (combinations plan base.dimensions (facts_of lines)) (group_number plan.groups columns)
    (size_of (counts_of columns)) (group_values columns) count sum

-- the rows answer the question over any lines of which these are the counts and sums
abbrev pub AnswersLines : Query × List Value → List (List Value) → (ℕ → ℕ) → (ℕ → ℤ) → List ResultRow → Type 0
AnswersLines question columns count sum rows =
    (blank : Combination) (base : Tables) (lines : List LineFields)
    → IsSound base → All (IsKnown base.dimensions) lines
    → AllByRecursion AreApart columns
    → ((c : Combination) → Has (combinations (plan_over question.0 question.1) base.dimensions (facts_of lines)) c
    → ListValues (plan_over question.0 question.1).groups columns c)
    → ((g : ℕ) → g < size_of (counts_of columns)
    → count g ≡ length (taken blank (plan_over question.0 question.1) base lines
    (group_number (plan_over question.0 question.1).groups columns) g))
    → ((g : ℕ) → g < size_of (counts_of columns)
    → sum g ≡ line_sum (plan_over question.0 question.1).measure
    (taken blank (plan_over question.0 question.1) base lines
    (group_number (plan_over question.0 question.1).groups columns) g))
    → rows ≡ answer_of question base.dimensions (facts_of lines)
