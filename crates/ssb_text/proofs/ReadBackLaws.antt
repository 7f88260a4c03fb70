use Rattle.std.proofs.Common.{arith}
-- The texts of a base spell it: the text of each row is that of a record which spells the row.
use Rattle.std.proofs.Common.{◌≡◌, ℕ, suc, ◌≤◌, List, [], ◌∷◌, ◌++◌, length, map, refl, sym, ap, ◌∙◌, subst}
use Rattle.std.specs.List.{AllByRecursion, AllZip}
use Rattle.ssb_base.specs.Base.{Tables}
use Rattle.ssb_schema.specs.Columns.{Value, kinds_of}
use Rattle.ssb_schema.specs.Rows.{customer_values, date_values, line_values, part_values, supplier_values}
use Rattle.ssb_schema.specs.declared.table.Table.{Table}
use Rattle.ssb_schema.specs.declared.table.Table.TheVariants as table
use Rattle.ssb_text.specs.Load.{values_in}
use Rattle.ssb_text.specs.Records.{HasRecords}
use Rattle.ssb_text.specs.Tables.{SpellsRow, SpellsRows}
use Rattle.ssb_text.specs.TableText.{column_text}
use Rattle.ssb_text.proofs.RecordTextLaws.{IsReadable, has_records, text_of_record, text_of_records}
use Rattle.ssb_text.specs.RoundTrip.{IsTableRow, TextsSpellTheirBase}
use Rattle.ssb_text.specs.TableText.{rows_text}
use Rattle.ssb_text.proofs.ColumnTextLaws.{IsColumn, customer_fits, date_fits, line_fits, part_fits, supplier_fits}
use Rattle.ssb_text.proofs.RowTextLaws.{IsFitRow, row_is_record, row_read, row_readable}

-- the records of rows: the texts of their columns
abbrev records_of : List (List Value) → List (List (List ℕ))
records_of rows = map (λ values. map column_text values) rows

rows-records : (t : Table) (rows : List (List Value)) → AllByRecursion (IsFitRow t) rows
    → rows_text rows ≡ text_of_records (records_of rows)
rows-records t [] all = grind arith
rows-records t (values ∷ rows) all = grind (arith, row_is_record, text_of_record, rows-records t rows all.1)

all-readable : (t : Table) (rows : List (List Value)) → AllByRecursion (IsFitRow t) rows
    → AllByRecursion IsReadable (records_of rows)
all-readable t [] all = tt
all-readable t (values ∷ rows) all = (row_readable t values all.0, all-readable t rows all.1)

all-read : (t : Table) (rows : List (List Value)) → AllByRecursion (IsFitRow t) rows
    → AllZip (SpellsRow t) (records_of rows) rows
all-read t [] all = tt
all-read t (values ∷ rows) all = (row_read t values all.0, all-read t rows all.1)

as-many : (rows : List (List Value)) → length (records_of rows) ≡ length rows
as-many [] = refl
as-many (values ∷ rows) = ap suc (as-many rows)

spells-rows : (t : Table) (limit : ℕ) (rows : List (List Value)) → AllByRecursion (IsFitRow t) rows
    → length rows ≤ limit → SpellsRows t limit (rows_text rows) rows
spells-rows t limit rows all few = record {
  records = records_of rows;
  all = subst (λ text. HasRecords text (records_of rows)) (sym (rows-records t rows all))
      (has_records (records_of rows) (all-readable t rows all));
  spelled = all-read t rows all;
  few = subst (λ n. n ≤ limit) (sym (as-many rows)) few;
}

-- the rows of a base fit, since each table's values are of its columns' kinds
rows-fit : {R : Type 0} (t : Table) (values : R → List Value)
    → ((row : R) → IsTableRow t (values row) → AllZip IsColumn (kinds_of t) (values row))
    → (rows : List R) → AllByRecursion (IsTableRow t) (map values rows) → AllByRecursion (IsFitRow t) (map values rows)
rows-fit t values fits [] are = tt
rows-fit t values fits (row ∷ rows) are =
    (record { taken = are.0.taken; columns = fits row are.0 }, rows-fit t values fits rows are.1)

base-fits : (base : Tables) (t : Table) → AllByRecursion (IsTableRow t) (values_in base t)
    → AllByRecursion (IsFitRow t) (values_in base t)
base-fits base table.Customer are =
    rows-fit table.Customer customer_values customer_fits base.dimensions.customers are
base-fits base table.Supplier are =
    rows-fit table.Supplier supplier_values supplier_fits base.dimensions.suppliers are
base-fits base table.Part are = rows-fit table.Part part_values part_fits base.dimensions.parts are
base-fits base table.Date are = rows-fit table.Date date_values date_fits base.dimensions.dates are
base-fits base table.Lineorder are = rows-fit table.Lineorder line_values line_fits base.lines are

pub texts_spell_their_base : TextsSpellTheirBase
texts_spell_their_base base are t = grind (arith, spells-rows, base-fits)
