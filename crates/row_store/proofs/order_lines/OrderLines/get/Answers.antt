use Rattle.std.proofs.Common.{ap, sym, ◌∙◌, subst}
use Rattle.std.specs.List.{slice_get}
use Rattle.row_store.specs.OrderLines.{lines_held, AreWithin}
use Rattle.row_store.proofs.order_lines.OrderLines.get.Goals as goal

pub loaded_line-requires : goal.loaded_line-requires
loaded_line-requires c = subst AreWithin c.in-Loaded.is c.self.invariant.within

pub returns-in-Loaded : goal.returns-in-Loaded
returns-in-Loaded c = c.loaded_line.ensures ∙ ap (λ l. slice_get l c.args.place)
    (sym (ap lines_held c.in-Loaded.is) ∙ c.self.view_is)

pub returns-in-Added : goal.returns-in-Added
returns-in-Added c = c.line_at.ensures ∙ ap (λ l. slice_get l c.args.place)
    (sym (ap lines_held c.in-Added.is) ∙ c.self.view_is)
