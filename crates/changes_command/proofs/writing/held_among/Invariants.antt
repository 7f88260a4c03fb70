use Rattle.std.proofs.Common.{◌≡◌, ◌+◌, List, None, take, drop}
use Rattle.ssb_base.specs.Base.{Tables}
use Rattle.ssb_schema.specs.declared.line.LineFields.{LineFields}
use Rattle.row_store.specs.Lines.{lines_after_refresh}
use Rattle.row_store.specs.Refusals.{first_refusal}
use Rattle.changes_command.specs.Held.{IsHeldFrom}
use Rattle.changes_command.proofs.writing.held_among.Given as goal

abbrev pub invariant-loop-action : goal.invariant-loop-action
invariant-loop-action l =
    (base : Tables) (lines : List LineFields) → first_refusal base 1 lines l.earlier ≡ None
    → IsHeldFrom l.key lines l.held (lines_after_refresh lines (take l.action-index l.earlier))
    × (first_refusal base (l.action-index + 1) (lines_after_refresh lines (take l.action-index l.earlier))
    (drop l.action-index l.earlier) ≡ None)
