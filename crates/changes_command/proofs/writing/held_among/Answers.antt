use Rattle.std.proofs.Common.{◌≡◌, ◌+◌, None, List, take, drop, sym, subst}
use Rattle.row_store.specs.Lines.{lines_after_refresh}
use Rattle.row_store.proofs.CauseLaws.{none_refused-next}
use Rattle.row_store.specs.Refusals.{first_refusal}
use Rattle.ssb_schema.specs.declared.line.LineFields.{LineFields}
use Rattle.changes_command.specs.Held.{IsHeldFrom}
use Rattle.changes_command.proofs.TextLaws.{lines_next}
use Rattle.changes_command.proofs.writing.held_among.Goals as goal

pub loop-action-preserved : goal.loop-action-preserved
loop-action-preserved c = λ base lines none.
    let earlier = c.args.earlier.now in
    let i = c.loop-action.action-index in
    let action = c.action-item.result in
    let so_far = c.loop-action.invariant base lines none in
    let next = none_refused-next base (i + 1) lines earlier i action c.loop-action-test.true c.action-item.is so_far.1 in
    subst (λ (now : List LineFields). IsHeldFrom c.args.key lines c.held_after-held.result now
    × (first_refusal base (i + 1 + 1) now (drop (i + 1) earlier) ≡ None))
    (sym (lines_next lines earlier i action c.loop-action-test.true c.action-item.is))
    (c.held_after-held.ensures base lines (lines_after_refresh lines (take i earlier)) next.0 so_far.0, next.1)
