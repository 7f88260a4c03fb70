-- Groupings of questions that are made ready, as the loops read them.
use Rattle.std.specs.Prelude.{ℕ, ◌≡◌, ◌<◌, List, [], length, slice_index_or}
use Rattle.ssb_base.specs.Base.{Tables}
use Rattle.scan_kernel.specs.declared.columns.LineColumns.{LineColumns}
use Rattle.scan_kernel.specs.declared.columns.Grouping.{Grouping}
use Rattle.shared_scan.specs.GroupColumns.{AreGroupColumns}
use Rattle.shared_scan.specs.declared.ready.Ready.{Ready}
use Rattle.shared_scan.specs.declared.parts.Parts.{Parts}
use Rattle.shared_scan.specs.declared.parts.Parts.TheVariants.{Narrow, Wide}
use Rattle.shared_scan.specs.Parts.{parts_in, IsFew}

-- there is a part for each group column, and where a number is kept for each group, there are few
pub record HasParts (ready : Ready) : Type 0 where
  pub one_each : length (parts_in ready.groups.parts) ≡ length ready.plan.groups
  pub few : IsFew ready.groups.parts ready.groups.size

-- the question's measure, its group columns and the number of its groups
pub record IsDenseGrouping (base : Tables) (lines : LineColumns) (ready : Ready) (parts : List (List ℕ))
    (grouping : Grouping) : Type 0 where
  pub measure_is : grouping.measure ≡ ready.plan.measure
  pub columns_are : AreGroupColumns base lines ready.plan.groups parts grouping.columns.items
  pub size_is : grouping.size ≡ ready.groups.size

-- one group stands for all
pub record IsOneGroup (ready : Ready) (grouping : Grouping) : Type 0 where
  pub measure_is : grouping.measure ≡ ready.plan.measure
  pub ungrouped : grouping.columns.items ≡ []
  pub one : grouping.size ≡ 1

abbrev pub IsGroupingWith : Tables → LineColumns → Ready → Parts → Grouping → Type 0
IsGroupingWith base lines ready (Narrow parts) grouping = IsDenseGrouping base lines ready parts.items grouping
IsGroupingWith base lines ready (Wide parts) grouping = IsOneGroup ready grouping

-- the question's grouping; one group where its groups are summed up apart
abbrev pub IsReadyGrouping : Tables → LineColumns → Ready → Grouping → Type 0
IsReadyGrouping base lines ready grouping = IsGroupingWith base lines ready ready.groups.parts grouping

-- each question of a batch has its grouping
pub record AreReadyGroupings (base : Tables) (lines : LineColumns) (all : List Ready)
    (groupings : List Grouping) : Type 0 where
  pub len : length groupings ≡ length all
  pub each : (k : ℕ) (ready : Ready) (grouping : Grouping) → k < length all
      → IsReadyGrouping base lines (slice_index_or all k ready) (slice_index_or groupings k grouping)
