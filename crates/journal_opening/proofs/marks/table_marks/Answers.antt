use Rattle.std.proofs.Common.{rules, ◌≡◌, ℕ, List, subst, sym}
use Rattle.ssb_journal.specs.declared.head.TableMark.{TableMark}
use Rattle.ssb_schema.specs.declared.table.Table.{Table}
use Rattle.ssb_schema.specs.declared.table.Table.TheVariants as table
use Rattle.ssb_text.specs.Checksums.{HasChecksum}
use Rattle.journal_opening.proofs.marks.table_marks.Goals as goal

-- a mark of a table and its checksum has the checksum of the table's text
has : (texts : Table → List ℕ) → (mark : TableMark) → (t : Table) → (sum : List ℕ) → mark.table ≡ t
    → mark.checksum ≡ sum → HasChecksum (texts t) sum → HasChecksum (texts mark.table) mark.checksum
has texts mark t sum same_table same_sum is =
    subst (λ (named : Table). HasChecksum (texts named) mark.checksum) (sym same_table)
    (subst (λ (found : List ℕ). HasChecksum (texts t) found) (sym same_sum) is)

pub returns-clause-checksums : goal.returns-clause-checksums
returns-clause-checksums c = λ texts are. (
  has texts c.mark.result _ _ (search rules) (search rules) (are table.Customer),
  (
    has texts c.mark-2.result _ _ (search rules) (search rules) (are table.Supplier),
    (
      has texts c.mark-3.result _ _ (search rules) (search rules) (are table.Part),
      (
        has texts c.mark-4.result _ _ (search rules) (search rules) (are table.Date),
        (has texts c.mark-5.result _ _ (search rules) (search rules) (are table.Lineorder), tt),
      ),
    ),
  ),
)
