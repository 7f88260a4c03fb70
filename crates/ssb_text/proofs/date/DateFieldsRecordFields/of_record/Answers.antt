use Rattle.std.proofs.Common.{◌++◌, rules}
use Rattle.csv.specs.Records.{fields_of}
use Rattle.ssb_schema.specs.declared.table.Table.TheVariants as table
use Rattle.ssb_text.specs.DateColumns.{first_kinds, first_values, last_kinds, last_values}
use Rattle.ssb_text.specs.Row.{Fails, values_from}
use Rattle.ssb_text.proofs.RowLaws.{both_parts, first_fails, last_fails}
use Rattle.ssb_text.proofs.date.DateFieldsRecordFields.of_record.Goals as goal

pub returns : goal.returns
returns c = both_parts table.Date 0 first_kinds last_kinds (fields_of c.args.record.now)
    (first_values c.in_ok-first.first) (last_values c.in_ok-last.last) c.in_ok-first.ensures c.in_ok-last.ensures

pub returns-in_err-first : goal.returns-in_err-first
returns-in_err-first c =
    let e = c.in_err-first.field-0.0 in
    let fields = fields_of c.args.record.now in
    let fails : Fails e (values_from table.Date 0 (first_kinds ++ last_kinds) fields) =
    first_fails table.Date 0 first_kinds last_kinds fields e c.in_err-first.ensures in
    search rules

pub returns-in_err-last : goal.returns-in_err-last
unfolding values_from
returns-in_err-last c =
    let e = c.in_err-last.field-0.0 in
    let fields = fields_of c.args.record.now in
    let fails : Fails e (values_from table.Date 0 (first_kinds ++ last_kinds) fields) =
    last_fails table.Date 0 first_kinds last_kinds fields (first_values c.in_ok-first.first) e c.in_ok-first.ensures
    c.in_err-last.ensures in
    search rules
