use Rattle.std.proofs.Common.{◌≡◌, [], ◌∷◌, ◌++◌, ◌∙◌, ap, arith, decimal, flat_map, map, subst, sym}
use Rattle.ssb_schema.specs.Columns.{value_of}
use Rattle.ssb_schema.specs.Rows.{line_values}
use Rattle.ssb_text.proofs.WrittenLaws.{part_longer, writes_next, writes_stopped}
use Rattle.ssb_text.specs.TableText.{cell_text, column_text}
use Rattle.ssb_text.specs.Written.{StopsShort, Writes}
use Rattle.changes_command.specs.CsvText.{after_comma, sign_field}
use Rattle.changes_command.proofs.CsvLaws.{cells_parted, csv_in_parts}
use Rattle.changes_command.proofs.csv_text.write_csv.Goals as goal

pub returns-in_err-write_pieces : goal.returns-in_err-write_pieces
returns-in_err-write_pieces g c =
    let contents = g.W.Write.contents in
    let a = contents c.args.out.now in
    let b = contents c.write_pieces.new.writer in
    let commit = c.args.commit in
    let sign = c.args.sign in
    let line = c.args.line.now in
    writes_stopped _ c.from_residual.result a b _ c.from_residual.ensures.1
    (subst (StopsShort a b) (sym (csv_in_parts commit sign line (omega (arith, c.ranges.commit.fits))))
    (part_longer a b (decimal commit ++ (sign_field sign ++ []))
    (flat_map after_comma (map column_text (line_values line)) ++ 10 ∷ [])
    (rw c.mark.ensures at c.in_err-write_pieces.ensures)))

pub returns : goal.returns
returns g c =
    let contents = g.W.Write.contents in
    let a = contents c.args.out.now in
    let b = contents c.write_pieces.new.writer in
    let d = contents c.write_cells.new.out in
    let r = c.write_cells.result in
    let commit = c.args.commit in
    let sign = c.args.sign in
    let line = c.args.line.now in
    let fields = flat_map after_comma (map column_text (line_values line)) in
    let same : flat_map (λ cell. after_comma (cell_text cell)) c.as_slice.result.now ≡ fields =
    cells_parted c.as_slice.result.now
    ∙ ap (λ values. flat_map after_comma (map column_text values))
    (ap (map value_of) c.as_slice.ensures ∙ c.cells.ensures.values) in
    subst (Writes a d r) (sym (csv_in_parts commit sign line (omega (arith, c.ranges.commit.fits))))
    (writes_next a b d (decimal commit ++ (sign_field sign ++ [])) (fields ++ 10 ∷ []) r
    (rw c.mark.ensures at c.in_ok-write_pieces.ensures)
    (subst (Writes b d r) (ap (λ t. t ++ 10 ∷ []) same) c.write_cells.ensures))
