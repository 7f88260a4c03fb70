use Rattle.std.proofs.Common.{◌++◌, ◌∙◌, ap, sym}
use Rattle.row_store.specs.State.{State}
use Rattle.twin_cell.specs.Twin.{Writing}
use Rattle.ssb_server.proofs.opening.table_over.Goals as goal

pub new-requires-clause-writer : goal.new-requires-clause-writer
new-requires-clause-writer g c =
    let writer = c.in_ok-writer.ensures.writer in (
      ap (λ (w : Writing). w.base) writer ∙ ap (λ (s : State). s.base) c.loaded.invariant.columns,
      ap (λ (w : Writing). w.published ++ w.pending) writer,
    )

pub returns-in-Ok-clause-readers : goal.returns-in-Ok-clause-readers
returns-in-Ok-clause-readers g c k d within =
    let known = c.in_ok-writer.ensures.known k d within in (
      known.0 ∙ (ap (λ (s : State). s.base) c.loaded.invariant.columns ∙ sym c.in-Ok.ensures.table.0),
      known.1,
    )
