use Rattle.std.proofs.Common.{length, ap, sym, ◌∙◌, subst}
use Rattle.row_store.specs.OrderLines.{lines_held, AreWithin}
use Rattle.row_store.proofs.IndexedLaws.{length-lines_at}
use Rattle.row_store.proofs.order_lines.OrderLines.len.Goals as goal

pub returns-in-Loaded-clause-count : goal.returns-in-Loaded-clause-count
returns-in-Loaded-clause-count c =
    sym (length-lines_at c.in-Loaded.field-0.now c.in-Loaded.positions.now
    (subst AreWithin c.in-Loaded.is c.self.invariant.within))
    ∙ ap length (sym (ap lines_held c.in-Loaded.is) ∙ c.self.view_is)
