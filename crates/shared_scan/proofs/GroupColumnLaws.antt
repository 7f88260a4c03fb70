use Rattle.std.proofs.Common.{arith}
-- Group columns as the loops read them, one after another, and what they are of what was made ready.
use Rattle.std.proofs.Common.{ℕ, ◌*◌, List, [], ◌∷◌, ◌++◌, length, ◌∙◌}
use Rattle.ssb_base.specs.Base.{Tables}
use Rattle.ssb_schema.specs.declared.column.Column.{Column}
use Rattle.ssb_questions.specs.declared.value.Value.{Value}
use Rattle.scan_kernel.specs.declared.columns.LineColumns.{LineColumns}
use Rattle.scan_kernel.specs.declared.columns.GroupColumn.{GroupColumn}
use Rattle.scan_kernel.specs.declared.masks.Masks.{Masks}
use Rattle.shared_scan.specs.Prepared.{AreParts}
use Rattle.shared_scan.specs.Grouped.{ArePrepared}
use Rattle.shared_scan.specs.GroupColumns.{AreGroupColumns, IsGroupColumn}

pub group_columns_more : (base : Tables) (lines : LineColumns) (columns : List Column) (parts : List (List ℕ))
    (groups : List GroupColumn) (column : Column) (part : List ℕ) (group : GroupColumn)
    → AreGroupColumns base lines columns parts groups → IsGroupColumn base lines column part group
    → AreGroupColumns base lines (columns ++ column ∷ []) (parts ++ part ∷ []) (groups ++ group ∷ [])
group_columns_more base lines [] [] [] column part group h more = grind arith
group_columns_more base lines [] [] (g ∷ groups) column part group h more = grind arith
group_columns_more base lines [] (p ∷ parts) groups column part group h more = grind arith
group_columns_more base lines (c ∷ columns) [] groups column part group h more = grind arith
group_columns_more base lines (c ∷ columns) (p ∷ parts) [] column part group h more = grind arith
group_columns_more base lines (c ∷ columns) (p ∷ parts) (g ∷ groups) column part group h more = grind (arith, group_columns_more base lines columns parts groups column part group h.1 more)

-- of columns that are made ready they are the parts
pub parts_of_prepared : (base : Tables) (masks : Masks) (k : ℕ) (lines : LineColumns) (columns : List Column)
    (values : List (List Value)) (step : ℕ) (parts : List (List ℕ)) (groups : List GroupColumn)
    → ArePrepared base masks k columns values step parts → AreGroupColumns base lines columns parts groups
    → AreParts base masks k lines columns values step groups
parts_of_prepared base masks k lines [] [] step [] [] h g = grind arith
parts_of_prepared base masks k lines [] [] step [] (x ∷ groups) h g = grind arith
parts_of_prepared base masks k lines [] [] step (p ∷ parts) groups h g = grind arith
parts_of_prepared base masks k lines [] (v ∷ values) step parts groups h g = grind arith
parts_of_prepared base masks k lines (c ∷ columns) [] step parts groups h g = grind arith
parts_of_prepared base masks k lines (c ∷ columns) (v ∷ values) step [] groups h g = grind arith
parts_of_prepared base masks k lines (c ∷ columns) (v ∷ values) step (p ∷ parts) [] h g = grind arith
parts_of_prepared base masks k lines (c ∷ columns) (v ∷ values) step (p ∷ parts) (x ∷ groups) h g = grind (arith, parts_of_prepared base masks k lines columns values (step * length v) parts groups h.1 g.1)
