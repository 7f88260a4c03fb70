-- What the scan rests on.
use Rattle.std.specs.Prelude.{ℕ, pos, ◌≡◌, ◌<◌, ◌≤◌, ◌^◌, ◌-ℤ◌, All, List, Some, length, map, slice_get, slice_index}
use Rattle.std.specs.List.{range_with_len}
use Rattle.ssb_base.specs.Base.{Tables, IsSound}
use Rattle.ssb_base.specs.Limits.{most_lines}
use Rattle.ssb_questions.specs.declared.plan.Plan.{Plan}
use Rattle.ssb_questions.specs.declared.value.Value.{Value}
use Rattle.ssb_questions.specs.declared.query.Query.{Query}
use Rattle.ssb_questions.specs.Queries.{plan_over}
use Rattle.ssb_answers.specs.Answer.{answer_of}
use Rattle.ssb_answers.specs.declared.answer.ResultRow.{ResultRow}
use Rattle.fact_columns.specs.declared.place.Place.{Place}
use Rattle.fact_columns.specs.Places.{IsWithin, live_facts}
use Rattle.scan_kernel.specs.declared.columns.LineColumns.{LineColumns}
use Rattle.scan_kernel.specs.declared.columns.Grouping.{Grouping}
use Rattle.scan_kernel.specs.declared.masks.Masks.{Masks}
use Rattle.scan_kernel.specs.declared.totals.Totals.{Totals}
use Rattle.scan_kernel.specs.Totals.{AreTotals}
use Rattle.scan_kernel.specs.Scan.{AnswersLines}
use Rattle.shared_scan.specs.Prepared.{AreMasksOf, IsGroupingOf}

-- the columns are those of the places
pub record AreLinesOf (places : List Place) (lines : LineColumns) : Type 0 where
  pub customers_are : lines.customer.now ≡ map (λ place. place.customer) places
  pub suppliers_are : lines.supplier.now ≡ map (λ place. place.supplier) places
  pub parts_are : lines.part.now ≡ map (λ place. place.part) places
  pub dates_are : lines.date.now ≡ map (λ place. place.date) places
  pub terms_are : lines.terms.now ≡ map (λ place. place.terms) places
  pub prices_are : lines.price.now ≡ map (λ place. place.price) places
  pub revenues_are : lines.revenue.now ≡ map (λ place. place.revenue) places
  pub costs_are : lines.cost.now ≡ map (λ place. place.cost) places

-- totals over all places, of which no more than so many are live, are those of the live lines' groups: rows that are
-- right for these are the answer
abbrev pub TotalsAnswer : Type 0
TotalsAnswer =
    (base : Tables) (question : Query × List Value) (plans : List Plan) (k : ℕ) (places : List Place)
    (lines : LineColumns) (masks : Masks) (columns : List (List Value)) (grouping : Grouping) (totals : Totals)
    (rows : List ResultRow)
    → IsSound base → All (IsWithin base.dimensions) places → AreLinesOf places lines
    → length (live_facts base.dimensions places) ≤ most_lines
    → slice_get plans k ≡ Some (plan_over question.0 question.1) → AreMasksOf plans base.dimensions masks
    → IsGroupingOf base masks k lines (plan_over question.0 question.1) columns grouping
    → AreTotals lines masks k grouping (range_with_len 0 (length places)) totals
    → ((g : ℕ) → slice_index totals.counts.items g < 2 ^ 64) → ((g : ℕ) → slice_index totals.gains.items g < 2 ^ 64)
    → ((g : ℕ) → slice_index totals.losses.items g < 2 ^ 64)
    → AnswersLines question columns (λ g. slice_index totals.counts.items g)
    (λ g. pos (slice_index totals.gains.items g) -ℤ pos (slice_index totals.losses.items g)) rows
    → rows ≡ answer_of question base.dimensions (live_facts base.dimensions places)
