use Rattle.std.proofs.Common.{subst, ◌<◌, ap, arith, length}
use Rattle.fact_columns.specs.Columns.{Held}
use Rattle.fact_columns.specs.Zoned.{HasLine}
use Rattle.fact_columns.proofs.ZoneLaws.{table_written}
use Rattle.fact_columns.proofs.fact_table.FactTable.write.Goals as goal

pub invariant_of-self : goal.invariant_of-self
invariant_of-self c =
    let t = c.self.inside in
    let within : c.args.place < length t.columns.places =
    omega (arith, ap (λ (h : Held). length h.places) c.self.view_is, c.requires) in
    table_written t.columns c.write.new.self t.zones c.mark.new.self c.args.place c.args.with c.self.invariant within
    c.write.ensures.places c.write.ensures.room c.mark.ensures.kept (subst (HasLine c.mark.new.self _) c.scanned_line.ensures c.mark.ensures.here)
