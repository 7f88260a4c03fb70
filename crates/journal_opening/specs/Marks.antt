-- By what a journal's head knows the tables.
use Rattle.std.specs.Prelude.{◌≡◌, ℕ, List, [], ◌∷◌, length, map}
use Rattle.std.specs.List.{AllByRecursion}
use Rattle.ssb_base.specs.Base.{Tables}
use Rattle.ssb_journal.specs.declared.head.TableMark.{TableMark}
use Rattle.ssb_schema.specs.declared.table.Table.{Table}
use Rattle.ssb_schema.specs.declared.table.Table.TheVariants as table
use Rattle.ssb_text.specs.Checksums.{HasChecksum}

-- the tables in the order of a head
abbrev pub tables_of_head : List Table
tables_of_head = table.Customer ∷ table.Supplier ∷ table.Part ∷ table.Date ∷ table.Lineorder ∷ []

-- how many rows each of them has
abbrev pub row_counts : Tables → List ℕ
row_counts t = length t.dimensions.customers ∷ length t.dimensions.suppliers ∷ length t.dimensions.parts
    ∷ length t.dimensions.dates ∷ length t.lines ∷ []

-- marks of these tables, one of each; how many bytes their files had is not said
pub record AreMarks (base : Tables) (marks : List TableMark) : Type 0 where
  pub in_order : map (λ mark. mark.table) marks ≡ tables_of_head
  pub rows : map (λ mark. mark.rows) marks ≡ row_counts base

-- each mark has the checksum of its table's text
abbrev pub HaveChecksums : (Table → List ℕ) → List TableMark → Type 0
HaveChecksums texts marks = AllByRecursion (λ mark. HasChecksum (texts mark.table) mark.checksum) marks
