use Rattle.std.proofs.Common.{subst, sym}
use Rattle.fact_columns.specs.Zoned.{HasLine}
use Rattle.fact_columns.proofs.ZoneLaws.{table_pushed}
use Rattle.fact_columns.proofs.fact_table.FactTable.push.Goals as goal

pub invariant_of-self : goal.invariant_of-self
invariant_of-self c =
    let t = c.self.inside in
    table_pushed t.columns c.push.new.self t.zones c.mark.new.self c.len.result c.args.with c.self.invariant
    (sym c.len.ensures) c.push.ensures.places c.push.ensures.room c.mark.ensures.kept (subst (HasLine c.mark.new.self _) c.scanned_line.ensures c.mark.ensures.here)
