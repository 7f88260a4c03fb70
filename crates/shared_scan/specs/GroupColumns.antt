-- Group columns as the loops read them.
use Rattle.std.specs.Prelude.{ℕ, ◌≡◌, List, [], ◌∷◌}
use Rattle.ssb_base.specs.Base.{Tables}
use Rattle.ssb_schema.specs.declared.column.Column.{Column}
use Rattle.dimension_index.specs.Codes.{codes_of}
use Rattle.dimension_index.specs.Values.{values_of}
use Rattle.scan_kernel.specs.declared.columns.LineColumns.{LineColumns}
use Rattle.scan_kernel.specs.declared.columns.GroupColumn.{GroupColumn}
use Rattle.shared_scan.specs.Prepared.{positions_in}

-- where the lines' rows stand, the codes of the rows' values, and what a code adds
pub record IsGroupColumn (base : Tables) (lines : LineColumns) (column : Column) (part : List ℕ)
    (group : GroupColumn) : Type 0 where
  pub positions_are : group.positions.now ≡ positions_in column.table lines
  pub codes_are : group.codes.now ≡ codes_of (values_of base column)
  pub parts_are : group.parts.now ≡ part

abbrev pub AreGroupColumns : Tables → LineColumns → List Column → List (List ℕ) → List GroupColumn → Type 0
AreGroupColumns base lines [] [] [] = Unit {0}
AreGroupColumns base lines (column ∷ columns) (part ∷ parts) (group ∷ groups) =
    IsGroupColumn base lines column part group × AreGroupColumns base lines columns parts groups
AreGroupColumns base lines _ _ _ = ⊥
