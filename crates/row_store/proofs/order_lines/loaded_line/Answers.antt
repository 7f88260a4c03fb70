use Rattle.std.proofs.Common.{◌≤◌, length, sym, ◌∙◌, arith}
use Rattle.std.proofs.lemmas.Option.{slice_get_past}
use Rattle.row_store.specs.Keyed.{lines_at}
use Rattle.row_store.proofs.IndexedLaws.{length-lines_at, slice_get-lines_at}
use Rattle.row_store.proofs.order_lines.loaded_line.Goals as goal

pub returns-then-place-positions : goal.returns-then-place-positions
returns-then-place-positions c =
    let past : length (lines_at c.args.lines.now c.args.positions.now) ≤ c.args.place =
    omega (arith, length-lines_at c.args.lines.now c.args.positions.now c.requires, c.if-place-positions.true) in
    sym (slice_get_past (lines_at c.args.lines.now c.args.positions.now) c.args.place past)

pub returns : goal.returns
returns c = c.line_at.ensures ∙ sym (slice_get-lines_at c.args.lines.now c.args.positions.now c.args.place c.requires
    c.if-place-positions.false)
