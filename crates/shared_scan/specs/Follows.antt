-- Standing questions that follow the live lines.
use Rattle.std.specs.Prelude.{ℕ, ◌≡◌, ◌<◌, ◌≤◌, Bool, List, Option, length, position, slice_index_or}
use Rattle.ssb_base.specs.Base.{Tables}
use Rattle.ssb_questions.specs.QuestionEq.{question_eq}
use Rattle.ssb_questions.specs.declared.query.Query.{Query}
use Rattle.ssb_questions.specs.declared.value.Value.{Value}
use Rattle.dimension_index.specs.Classes.{reduced}
use Rattle.fact_columns.specs.declared.scanned_line.ScannedLine.{ScannedLine}
use Rattle.scan_kernel.specs.Masks.{questions_a_pass}
use Rattle.scan_kernel.specs.declared.masks.Masks.{Masks}
use Rattle.scan_kernel.specs.declared.totals.Totals.{Totals}
use Rattle.shared_scan.specs.Prepared.{AreMasksOf}
use Rattle.shared_scan.specs.Masking.{CoverRows}
use Rattle.shared_scan.specs.Batch.{plans_of, questions_of, AreReady}
use Rattle.shared_scan.specs.Standing.{AreTotalsOver, ShiftsBatch}
use Rattle.shared_scan.specs.declared.ready.Ready.{Ready}
use Rattle.shared_scan.specs.declared.standing.Standing.{Standing}

-- questions that are made ready over rows that begin a class, each with its totals over the lines
pub record FollowWith (base : Tables) (masks : Masks) (all : List Ready) (totals : List Totals)
    (lines : List ScannedLine) : Type 0 where
  pub few : length all ≤ questions_a_pass
  pub one_each : length totals ≡ length all
  pub masks_tell : AreMasksOf (plans_of (questions_of all)) base.dimensions masks
  pub masks_cover : CoverRows base.dimensions masks
  pub ready : AreReady base masks (questions_of all) all
  pub each : (k : ℕ) (ready : Ready) (t : Totals) → k < length all
      → AreTotalsOver base masks k (slice_index_or all k ready) lines (slice_index_or totals k t)

-- the questions are made ready over the index, and have their totals over the lines
abbrev pub Follows : Standing → List ScannedLine → Type 0
Follows standing lines = FollowWith (reduced standing.batch.value.index.value) standing.batch.value.masks
    standing.batch.value.questions.items standing.totals.items lines

-- so, over this base
abbrev pub FollowsOver : Standing → Tables → List ScannedLine → Type 0
FollowsOver standing base lines = (standing.batch.value.index.value ≡ base) × Follows standing lines

-- the totals have a line more, or less, where each question has totals; nothing else has changed
pub record Changes (old new : Standing) (line : ScannedLine) (comes : Bool) : Type 0 where
  pub batch_is : new.batch.value ≡ old.batch.value
  pub len : length new.totals.items ≡ length old.totals.items
  pub shifted : length old.batch.value.questions.items ≤ questions_a_pass
      → length old.totals.items ≡ length old.batch.value.questions.items
      → ShiftsBatch (reduced old.batch.value.index.value) old.batch.value.masks old.batch.value.questions.items line
      comes old.totals.items new.totals.items

-- where a question stands among these, if it does
abbrev pub position_in : Standing → Query × List Value → Option ℕ
position_in standing question =
    position (λ (ready : Ready). question_eq ready.question question) standing.batch.value.questions.items
