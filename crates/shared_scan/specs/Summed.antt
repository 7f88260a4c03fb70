-- What a question sums up over places, by group.
use Rattle.std.specs.Prelude.{ℕ, pos, ◌≡◌, ◌<◌, ◌≤◌, ◌%◌, ◌^◌, ◌-ℤ◌, List, length}
use Rattle.std.specs.List.{range_with_len}
use Rattle.ssb_base.specs.Base.{Tables}
use Rattle.ssb_questions.specs.declared.plan.Measure.{Measure}
use Rattle.ssb_questions.specs.Queries.{plan_over}
use Rattle.ssb_answers.specs.declared.answer.ResultRow.{ResultRow}
use Rattle.scan_kernel.specs.declared.columns.LineColumns.{LineColumns}
use Rattle.scan_kernel.specs.declared.columns.GroupColumn.{GroupColumn}
use Rattle.scan_kernel.specs.declared.masks.Masks.{Masks}
use Rattle.scan_kernel.specs.Places.{group_at, gain_at, loss_at}
use Rattle.scan_kernel.specs.Sums.{sum_in}
use Rattle.scan_kernel.specs.Totals.{taken}
use Rattle.scan_kernel.specs.Scan.{AnswersLines}
use Rattle.shared_scan.specs.declared.ready.Ready.{Ready}
use Rattle.shared_scan.specs.Prepared.{IsGroupingBy}

-- at each group the number is the sum of an amount over its places, modulo 2^64, and fits 64 bits; there are no others
pub record IsSummed (amount group : ℕ → ℕ) (size : ℕ) (places : List ℕ) (sum : ℕ → ℕ) : Type 0 where
  pub each : (g : ℕ) → g < size → sum g % 2 ^ 64 ≡ sum_in amount group g places % 2 ^ 64
  pub past : (g : ℕ) → size ≤ g → sum g ≡ 0
  pub fits : (g : ℕ) → sum g < 2 ^ 64

-- the counts, gains and losses of question k by group, over the places that it takes
pub record AreSummed (lines : LineColumns) (masks : Masks) (k : ℕ) (measure : Measure) (groups : List GroupColumn)
    (size : ℕ) (places : List ℕ) (count gain loss : ℕ → ℕ) : Type 0 where
  pub counts : IsSummed (λ place. 1) (group_at groups) size (taken lines masks k places) count
  pub gains : IsSummed (gain_at lines measure) (group_at groups) size (taken lines masks k places) gain
  pub losses : IsSummed (loss_at lines measure) (group_at groups) size (taken lines masks k places) loss

-- the rows are right for what question k sums up over all places
pub record AreRowsOver (base : Tables) (lines : LineColumns) (masks : Masks) (k : ℕ) (ready : Ready)
    (rows : List ResultRow) : Type 0 where
  pub groups : List GroupColumn
  pub count : ℕ → ℕ
  pub gain : ℕ → ℕ
  pub loss : ℕ → ℕ
  pub grouped : IsGroupingBy base masks k lines (plan_over ready.question.0 ready.question.1)
      ready.groups.columns.items ready.plan.measure groups ready.groups.size
  pub summed : AreSummed lines masks k ready.plan.measure groups ready.groups.size
      (range_with_len 0 (length lines.customer.now)) count gain loss
  pub right : AnswersLines ready.question ready.groups.columns.items count (λ g. pos (gain g) -ℤ pos (loss g)) rows
