-- The group columns of a question, made ready.
use Rattle.std.specs.Prelude.{ℕ, ◌*◌, ◌<◌, List, [], ◌∷◌, length}
use Rattle.ssb_base.specs.Base.{Tables}
use Rattle.ssb_schema.specs.declared.column.Column.{Column}
use Rattle.ssb_questions.specs.declared.value.Value.{Value}
use Rattle.dimension_index.specs.Values.{values_of}
use Rattle.scan_kernel.specs.declared.masks.Masks.{Masks}
use Rattle.shared_scan.specs.Numbering.{HasMasks, IsPreparedColumn}
use Rattle.shared_scan.specs.Prepared.{masks_in}

-- each row of a dimension has its masks
abbrev pub HaveMasks : Tables → Masks → Type 0
HaveMasks base masks =
    (column : Column) (p : ℕ) → p < length (values_of base column) → HasMasks (masks_in column.table masks) p

-- each group column is made ready, the step being the product of the counts before it
abbrev pub ArePrepared : Tables → Masks → ℕ → List Column → List (List Value) → ℕ → List (List ℕ) → Type 0
ArePrepared base masks k [] [] step [] = Unit {0}
ArePrepared base masks k (column ∷ groups) (values ∷ columns) step (part ∷ parts) =
    IsPreparedColumn (values_of base column) (masks_in column.table masks) k step values part
    × ArePrepared base masks k groups columns (step * length values) parts
ArePrepared base masks k _ _ step _ = ⊥
