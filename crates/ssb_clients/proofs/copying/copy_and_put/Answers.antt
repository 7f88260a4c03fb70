use Rattle.std.proofs.Common.{ap, inl, sym, ◌∙◌}
use Rattle.row_store.specs.History.{Warehouse}
use Rattle.ssb_clients.proofs.copying.copy_and_put.Goals as goal

pub copy_behind-commits-requires : goal.copy_behind-commits-requires
copy_behind-commits-requires g c = rw c.requires.rows c.requires.taken

pub put_rows-requires-clause-table : goal.put_rows-requires-clause-table
put_rows-requires-clause-table g c = c.requires.table ∙ sym c.server.view_is

pub put_rows-requires-clause-taken : goal.put_rows-requires-clause-taken
put_rows-requires-clause-taken g c = c.requires.holds

pub put_rows-requires-clause-rows : goal.put_rows-requires-clause-rows
put_rows-requires-clause-rows g c =
    let same = c.forget-forgotten.ensures.same ∙ c.requires.rows in
    (ap (λ (w : Warehouse). w.base) same, inl (ap (λ (w : Warehouse). w.log) same))

pub returns-clause-back : goal.returns-clause-back
returns-clause-back g c =
    c.put_rows.ensures.put.0 (ap (λ (w : Warehouse). w.log) (c.forget-forgotten.ensures.same ∙ c.requires.rows))
