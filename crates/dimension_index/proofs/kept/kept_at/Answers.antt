use Rattle.std.proofs.Common.{◌≡◌, ◌+◌, subst, sym, List, All, length, map, slice_get, Some}
use Rattle.ssb_schema.specs.declared.column.Column.{Column}
use Rattle.dimension_index.specs.Values.{values_of}
use Rattle.dimension_index.specs.Kept.{kept_columns}
use Rattle.dimension_index.proofs.ColumnLaws.{kept_read, kept_unread}
use Rattle.dimension_index.proofs.kept.kept_at.Goals as goal

pub returns-in-Some : goal.returns-in-Some
returns-in-Some c base =
    kept_read base c.args.column c.in-Some.place (subst
    (λ (columns : List Column). slice_get columns c.in-Some.place ≡ Some c.args.column)
    c.query_columns.ensures.columns c.in-Some.ensures.found)

pub returns-in-None : goal.returns-in-None
returns-in-None c base =
    let absent = subst (λ (columns : List Column). All (λ own. own ≡ c.args.column → ⊥) columns)
    c.query_columns.ensures.columns c.in-None.ensures.absent in
    subst (λ (columns : List Column). slice_get (map (values_of base) kept_columns)
    (length columns + c.unread_at.result) ≡ Some (values_of base c.args.column))
    (sym c.query_columns-in-None.ensures.columns)
    (kept_unread base c.args.column c.unread_at.result absent c.unread_at.ensures)
