use Rattle.fact_columns.proofs.ZoneLaws.{table_freed}
use Rattle.fact_columns.proofs.fact_table.FactTable.free.Goals as goal

pub invariant_of-self : goal.invariant_of-self
invariant_of-self c =
    let t = c.self.inside in
    table_freed t.columns c.free.new.self t.zones c.args.place c.self.invariant c.free.ensures.places
    c.free.ensures.room
