-- The totals of a question by the groups that lines have.
use Rattle.std.specs.Prelude.{ℕ, ◌≡◌, ◌<◌, ◌+◌, ◌%◌, ◌^◌, List, Some, map, nat_eq, unwrap_or, false}
use Rattle.indexmap.specs.IndexMap.{IndexMap, get, IsUnique}
use Rattle.scan_kernel.specs.declared.columns.LineColumns.{LineColumns}
use Rattle.scan_kernel.specs.declared.columns.GroupColumn.{GroupColumn}
use Rattle.scan_kernel.specs.declared.sparse.SparseColumn.{SparseColumn}
use Rattle.scan_kernel.specs.declared.sparse.GroupSums.{GroupSums}
use Rattle.ssb_questions.specs.declared.plan.Measure.{Measure}
use Rattle.scan_kernel.specs.Places.{part_at, group_at, gain_at, loss_at}
use Rattle.scan_kernel.specs.Sums.{sum_in}

-- the same column, whatever the width of its parts
abbrev pub as_group_column : SparseColumn → GroupColumn
as_group_column column = record { positions = column.positions; codes = column.codes; parts = column.parts }

abbrev pub as_group_columns : List SparseColumn → List GroupColumn
as_group_columns columns = map as_group_column columns

abbrev pub wide_part_at : ℕ → SparseColumn → ℕ
wide_part_at place column = part_at place (as_group_column column)

-- the sums of a group of which no line was seen
abbrev pub nothing : GroupSums
nothing = record { count = 0; gain = 0; loss = 0 }

-- the sums of a group
abbrev pub sums_in : {S : Type 0} → IndexMap ℕ GroupSums S → ℕ → GroupSums
sums_in totals g = unwrap_or (get nat_eq totals g) nothing

-- the sums of the group are those of one line more, and every other group's are as they were
pub record AddsLine {S : Type 0} (old new : IndexMap ℕ GroupSums S) (group gain loss : ℕ) : Type 0 where
  pub grows : get nat_eq new group ≡ Some (record {
    count = ((sums_in old group).count + 1) % 2 ^ 64;
    gain = ((sums_in old group).gain + gain) % 2 ^ 64;
    loss = ((sums_in old group).loss + loss) % 2 ^ 64;
  })
  pub others : (g : ℕ) → nat_eq group g ≡ false → get nat_eq new g ≡ get nat_eq old g
  pub unique : IsUnique nat_eq new

-- the numbers of groups are the sums of an amount over the groups' places, modulo 2^64
abbrev pub AreSumsOf : (ℕ → ℕ) → (ℕ → ℕ) → List ℕ → (ℕ → ℕ) → Type 0
AreSumsOf amount group places sum = (g : ℕ) → sum g % 2 ^ 64 ≡ sum_in amount group g places % 2 ^ 64

-- the sums are numbers of 64 bits
pub record Fit64 (sums : GroupSums) : Type 0 where
  pub count : sums.count < 2 ^ 64
  pub gain : sums.gain < 2 ^ 64
  pub loss : sums.loss < 2 ^ 64

-- the sums are those of the groups of the places, each of which has a number below the size
pub record AreSparseTotals {S : Type 0} (lines : LineColumns) (measure : Measure) (columns : List GroupColumn)
    (places : List ℕ) (size : ℕ) (totals : IndexMap ℕ GroupSums S) : Type 0 where
  pub counts_are : AreSumsOf (λ place. 1) (group_at columns) places (λ g. (sums_in totals g).count)
  pub gains_are : AreSumsOf (gain_at lines measure) (group_at columns) places (λ g. (sums_in totals g).gain)
  pub losses_are : AreSumsOf (loss_at lines measure) (group_at columns) places (λ g. (sums_in totals g).loss)
  pub below : (g : ℕ) (sums : GroupSums) → get nat_eq totals g ≡ Some sums → g < size
  pub fits : (g : ℕ) → Fit64 (sums_in totals g)
  pub unique : IsUnique nat_eq totals
