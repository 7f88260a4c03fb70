-- The rows of the questions of a batch from their totals.
use Rattle.std.specs.Prelude.{ℕ, pos, ◌≡◌, ◌<◌, ◌^◌, ◌-ℤ◌, List, length, slice_index, slice_index_or, vec_len}
use Rattle.ssb_questions.specs.Queries.{plan_over}
use Rattle.ssb_answers.specs.declared.answer.Rows.{Rows}
use Rattle.scan_kernel.specs.declared.totals.Totals.{Totals}
use Rattle.scan_kernel.specs.Groups.{counts_of, size_of}
use Rattle.scan_kernel.specs.Scan.{AnswersLines}
use Rattle.ssb_base.specs.Base.{Tables}
use Rattle.ssb_answers.specs.declared.answer.ResultRow.{ResultRow}
use Rattle.scan_kernel.specs.declared.columns.LineColumns.{LineColumns}
use Rattle.scan_kernel.specs.declared.masks.Masks.{Masks}
use Rattle.shared_scan.specs.declared.ready.Ready.{Ready}
use Rattle.shared_scan.specs.declared.parts.Parts.{Parts}
use Rattle.shared_scan.specs.declared.parts.Parts.TheVariants.{Narrow, Wide}
use Rattle.shared_scan.specs.Scanned.{IsScanned}
use Rattle.shared_scan.specs.Summed.{AreRowsOver}

-- every number of the totals is one of 64 bits
pub record Fit64 (totals : Totals) : Type 0 where
  pub counts : (g : ℕ) → slice_index totals.counts.items g < 2 ^ 64
  pub gains : (g : ℕ) → slice_index totals.gains.items g < 2 ^ 64
  pub losses : (g : ℕ) → slice_index totals.losses.items g < 2 ^ 64

-- what was added up and taken away is small, so that differences fit 64 bits
pub record AreSmall (totals : Totals) : Type 0 where
  pub gains : (g : ℕ) → slice_index totals.gains.items g < 2 ^ 63
  pub losses : (g : ℕ) → slice_index totals.losses.items g < 2 ^ 63

-- a question's totals have a number for each of its groups, and are small if they are numbers of 64 bits
pub record FitGroups (ready : Ready) (totals : Totals) : Type 0 where
  pub counts : vec_len totals.counts ≡ size_of (counts_of ready.groups.columns.items)
  pub small : Fit64 totals → AreSmall totals

-- the rows are the question's over any lines that have these totals
pub record AreDenseRows (ready : Ready) (totals : Totals) (rows : List ResultRow) : Type 0 where
  pub fits : Fit64 totals
  pub right : AnswersLines ready.question ready.groups.columns.items (λ g. slice_index totals.counts.items g)
      (λ g. pos (slice_index totals.gains.items g) -ℤ pos (slice_index totals.losses.items g)) rows

-- a question can be answered, from its totals where they have a number for each of its groups
abbrev pub FitsWith : Ready → Parts → Totals → Type 0
FitsWith ready (Narrow parts) totals = FitGroups ready totals
FitsWith ready (Wide parts) totals = Unit {0}

pub record CanAnswer (base : Tables) (lines : LineColumns) (masks : Masks) (k : ℕ) (ready : Ready)
    (totals : Totals) : Type 0 where
  pub columns : length ready.groups.columns.items ≡ length (plan_over ready.question.0 ready.question.1).groups
  pub scanned : IsScanned base lines masks k ready
  pub fit : FitsWith ready ready.groups.parts totals

-- the rows of a question, from its totals where they have a number for each of its groups
abbrev pub AreRowsWith : Tables → LineColumns → Masks → ℕ → Ready → Parts → Totals → List ResultRow → Type 0
AreRowsWith base lines masks k ready (Narrow parts) totals rows = AreDenseRows ready totals rows
AreRowsWith base lines masks k ready (Wide parts) totals rows = AreRowsOver base lines masks k ready rows

pub record AreRowsOf (base : Tables) (lines : LineColumns) (masks : Masks) (k : ℕ) (ready : Ready) (totals : Totals)
    (rows : Rows) : Type 0 where
  pub question_is : rows.question ≡ ready.question
  pub right : AreRowsWith base lines masks k ready ready.groups.parts totals rows.list

-- so for each question of a batch
abbrev pub CanAnswerAll : Tables → LineColumns → Masks → List Ready → List Totals → Type 0
CanAnswerAll base lines masks all totals =
    (k : ℕ) (ready : Ready) (t : Totals) → k < length all
    → CanAnswer base lines masks k (slice_index_or all k ready) (slice_index_or totals k t)

pub record AreBatchRows (base : Tables) (lines : LineColumns) (masks : Masks) (all : List Ready)
    (totals : List Totals) (list : List Rows) : Type 0 where
  pub len : length list ≡ length all
  pub each : (k : ℕ) (ready : Ready) (t : Totals) (rows : Rows) → k < length all
      → AreRowsOf base lines masks k (slice_index_or all k ready) (slice_index_or totals k t)
      (slice_index_or list k rows)
