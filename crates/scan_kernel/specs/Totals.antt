-- The totals of a question over places, and of a batch.
use Rattle.std.specs.Prelude.{ℕ, ◌≡◌, ◌<◌, ◌≤◌, ◌^◌, true, All, List, length, filter, replicate, slice_index_or}
use Rattle.std.specs.Prelude.{vec_len}
use Rattle.scan_kernel.specs.declared.columns.LineColumns.{LineColumns}
use Rattle.scan_kernel.specs.declared.columns.Grouping.{Grouping}
use Rattle.scan_kernel.specs.declared.masks.Masks.{Masks}
use Rattle.scan_kernel.specs.declared.totals.Totals.{Totals}
use Rattle.scan_kernel.specs.Masks.{questions_a_pass}
use Rattle.scan_kernel.specs.Places.{CanNumber, CanSearch, has_bit, group_at, gain_at, loss_at}
use Rattle.scan_kernel.specs.Sums.{Adds}

-- the sums have grown by those of the places
pub record AddsTo (lines : LineColumns) (grouping : Grouping) (places counts gains losses : List ℕ)
    (new : Totals) : Type 0 where
  pub counts_are : Adds (λ place. 1) (group_at grouping.columns.items) places counts new.counts.items
  pub gains_are : Adds (gain_at lines grouping.measure) (group_at grouping.columns.items) places gains new.gains.items
  pub losses_are : Adds (loss_at lines grouping.measure)
      (group_at grouping.columns.items) places losses new.losses.items

-- the totals have grown by those of the places
abbrev pub AddsPlaces : LineColumns → Grouping → List ℕ → Totals → Totals → Type 0
AddsPlaces lines grouping places old new =
    AddsTo lines grouping places old.counts.items old.gains.items old.losses.items new

-- the places that question k takes
abbrev pub taken : LineColumns → Masks → ℕ → List ℕ → List ℕ
taken lines masks k places = filter (has_bit lines masks k) places

-- the totals of question k over the places
abbrev pub AreTotals : LineColumns → Masks → ℕ → Grouping → List ℕ → Totals → Type 0
AreTotals lines masks k grouping places totals =
    AddsTo lines grouping (taken lines masks k places) (replicate grouping.size 0) (replicate grouping.size 0)
    (replicate grouping.size 0) totals

-- question k can be summed: each line that it takes is of one of the groups
pub record CanSum (lines : LineColumns) (masks : Masks) (k : ℕ) (grouping : Grouping) : Type 0 where
  pub columns : All (CanNumber (length lines.customer.now)) grouping.columns.items
  pub groups : (place : ℕ) → place < length lines.customer.now → has_bit lines masks k place ≡ true
      → group_at grouping.columns.items place < grouping.size
  pub few : grouping.size ≤ 2 ^ 32

-- every question of a batch can be summed
abbrev pub CanSumAll : LineColumns → Masks → List Grouping → Type 0
CanSumAll lines masks groupings =
    (k : ℕ) (grouping : Grouping) → k < length groupings → CanSum lines masks k (slice_index_or groupings k grouping)

-- a batch can be summed over the lines, and each row of a line has its masks
pub record CanScan (lines : LineColumns) (masks : Masks) (groupings : List Grouping) : Type 0 where
  pub few : length groupings ≤ questions_a_pass
  pub small : length lines.customer.now ≤ 2 ^ 32
  pub covers : CanSearch lines masks
  pub can_sum : CanSumAll lines masks groupings

-- there are totals for each question, with a number for each of its groups
pub record HaveSizes (groupings : List Grouping) (totals : List Totals) : Type 0 where
  pub all : length totals ≡ length groupings
  pub sizes : (k : ℕ) (grouping : Grouping) (t : Totals) → k < length groupings
      → vec_len (slice_index_or totals k t).counts ≡ (slice_index_or groupings k grouping).size

-- the totals of each question have grown by those of the places that it takes
abbrev pub AddsBatch : LineColumns → Masks → List Grouping → List ℕ → List Totals → List Totals → Type 0
AddsBatch lines masks groupings places old new =
    (k : ℕ) (grouping : Grouping) (t : Totals) → k < length groupings
    → AddsPlaces lines (slice_index_or groupings k grouping) (taken lines masks k places)
    (slice_index_or old k t) (slice_index_or new k t)

-- each question has its totals over the places
pub record AreBatchTotals (lines : LineColumns) (masks : Masks) (groupings : List Grouping) (places : List ℕ)
    (totals : List Totals) : Type 0 where
  pub all : length totals ≡ length groupings
  pub each : (k : ℕ) (grouping : Grouping) (t : Totals) → k < length groupings
      → AreTotals lines masks k (slice_index_or groupings k grouping) places (slice_index_or totals k t)

-- totals of no places
pub record AreZeros (size : ℕ) (t : Totals) : Type 0 where
  pub counts_are : t.counts.items ≡ replicate size 0
  pub gains_are : t.gains.items ≡ replicate size 0
  pub losses_are : t.losses.items ≡ replicate size 0
