use Rattle.std.proofs.Common.{◌≤◌, Result, Ok, Err, OnOk, map, sym, subst}
use Rattle.std.specs.List.{AllByRecursion}
use Rattle.std.proofs.lemmas.List.{length-map}
use Rattle.ssb_base.specs.Base.{IsSound, Tables}
use Rattle.ssb_schema.specs.Rows.{line_values}
use Rattle.ssb_schema.specs.declared.table.Table.TheVariants as table
use Rattle.ssb_text.specs.RoundTrip.{AreTableRows, IsTableRow}
use Rattle.export_command.proofs.writing.write_table.Goals as goal

lines-are-rows : {X E : Type 0} (result : Result X E) (base : Tables)
    → OnOk result (AllByRecursion (IsTableRow table.Lineorder) (map line_values base.lines)) → IsSound base
    → OnOk result (AreTableRows base table.Lineorder)
lines-are-rows (Ok v) base rows sound = record {
  rows = rows;
  few = subst (λ n. n ≤ base.limits.lines) (sym (length-map base.lines line_values)) sound.few;
}
lines-are-rows (Err e) base rows sound = tt

pub returns-in-Lineorder-clause-rows : goal.returns-in-Lineorder-clause-rows
returns-in-Lineorder-clause-rows g c =
    let tables = c.args.tables.now in
    let sound : IsSound tables = subst IsSound c.tables.view_is c.tables.invariant in
    subst (λ t. OnOk c.write_lines.result (AreTableRows tables t)) (sym c.in-Lineorder.is)
    (lines-are-rows c.write_lines.result tables c.write_lines.ensures.rows sound)
