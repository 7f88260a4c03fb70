use Rattle.std.proofs.Common.{◌≡◌, ◌∙◌, true, length, sym}
use Rattle.csv.specs.Records.{fields_of}
use Rattle.ssb_schema.specs.Columns.{kinds_of}
use Rattle.ssb_text.specs.Records.{has_columns}
use Rattle.ssb_text.proofs.RowLaws.{row_taken, row_refused}
use Rattle.ssb_text.proofs.row.row_from.Goals as goal

pub returns-in-Ok : goal.returns-in-Ok
returns-in-Ok g c =
    let t = g.F.Fields.of_table in
    let fields = fields_of c.args.record.now in
    let has : c.has_columns.result ≡ has_columns (length (kinds_of t)) fields =
    rw (← c.table.ensures, ← c.kinds.ensures) c.has_columns.ensures in
    let columns : has_columns (length (kinds_of t)) fields ≡ true = sym has ∙ c.if-not-has_columns.false in
    rw c.in-Ok.ensures.row (row_taken t fields (g.F.Fields.values c.in_ok-of_record.field-0) columns
    c.in_ok-of_record.ensures (sym c.in-Ok.ensures.fault))

pub returns-in-Err : goal.returns-in-Err
returns-in-Err g c =
    let t = g.F.Fields.of_table in
    let fields = fields_of c.args.record.now in
    let has : c.has_columns.result ≡ has_columns (length (kinds_of t)) fields =
    rw (← c.table.ensures, ← c.kinds.ensures) c.has_columns.ensures in
    let columns : has_columns (length (kinds_of t)) fields ≡ true = sym has ∙ c.if-not-has_columns.false in
    row_refused t fields (g.F.Fields.values c.in_ok-of_record.field-0) c.in-Err.refused.fault columns
    c.in_ok-of_record.ensures (sym c.in-Err.ensures.fault)
