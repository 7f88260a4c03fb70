-- A question that is scanned.
use Rattle.std.specs.Prelude.{ℕ, ℤ, pos, ◌≡◌, ◌≤◌, ◌-ℤ◌, All, List, Some, length, slice_get}
use Rattle.ssb_base.specs.Base.{Tables, IsSound}
use Rattle.ssb_base.specs.Limits.{most_lines}
use Rattle.ssb_questions.specs.declared.plan.Plan.{Plan}
use Rattle.ssb_questions.specs.Queries.{plan_over}
use Rattle.fact_columns.specs.declared.place.Place.{Place}
use Rattle.fact_columns.specs.Places.{IsWithin, live_facts}
use Rattle.scan_kernel.specs.declared.columns.LineColumns.{LineColumns}
use Rattle.scan_kernel.specs.declared.masks.Masks.{Masks}
use Rattle.scan_kernel.specs.declared.sparse.GroupSums.{GroupSums}
use Rattle.shared_scan.specs.declared.ready.Ready.{Ready}
use Rattle.shared_scan.specs.Prepared.{AreMasksOf}
use Rattle.shared_scan.specs.Laws.{AreLinesOf}
use Rattle.shared_scan.specs.Batch.{IsReady}

-- question k of a batch is made ready, and the lines are those of some places of the base
pub record IsScanned (base : Tables) (lines : LineColumns) (masks : Masks) (k : ℕ) (ready : Ready) : Type 0 where
  pub plans : List Plan
  pub places : List Place
  pub sound : IsSound base
  pub within : All (IsWithin base.dimensions) places
  pub few_live : length (live_facts base.dimensions places) ≤ most_lines
  pub are : AreLinesOf places lines
  pub at_k : slice_get plans k ≡ Some (plan_over ready.question.0 ready.question.1)
  pub tell : AreMasksOf plans base.dimensions masks
  pub is_ready : IsReady base masks k ready.question ready

-- what the lines of a group add to the measure, less what they take away
abbrev pub net : GroupSums → ℤ
net sums = pos sums.gain -ℤ pos sums.loss
