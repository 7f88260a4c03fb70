use Rattle.std.proofs.Common.{[], ◌++◌, flat_map, sym, ◌∙◌}
use Rattle.ssb_text.specs.Numbers.{sum_text, line_feed}
use Rattle.ssb_report.specs.AnswerText.{with_bar, value_text}
use Rattle.ssb_text.specs.Piece.{after_bar}
use Rattle.ssb_text.proofs.WrittenLaws.{writes_stopped, writes_next, part_longer, appends_both, appends_part}
use Rattle.ssb_report.proofs.RowLaws.{row_sum_first, row_sum_last}
use Rattle.ssb_report.proofs.answer.write_row.Goals as goal

pub returns-in_err-write_pieces : goal.returns-in_err-write_pieces
returns-in_err-write_pieces g c =
    let contents = g.W.Write.contents in
    let a = contents c.args.writer.now in
    let b = contents c.write_pieces.new.writer in
    let sum = sum_text c.args.row.now.sum ++ [] in
    let groups = flat_map (after_bar value_text) c.args.row.now.groups in
    writes_stopped _ c.from_residual.result a b _ c.from_residual.ensures.1
    (rw (row_sum_first c.args.query c.args.row.now (sym c.sum_stands_first.ensures ∙ c.if-sum_stands_first.true))
    (part_longer a b (sum ++ groups) (line_feed ++ []) (part_longer a b sum groups c.in_err-write_pieces.ensures)))

pub returns-in_err-write_after_bars : goal.returns-in_err-write_after_bars
returns-in_err-write_after_bars g c =
    let contents = g.W.Write.contents in
    let a = contents c.args.writer.now in
    let b = contents c.write_pieces.new.writer in
    let d = contents c.write_after_bars.new.writer in
    let sum = sum_text c.args.row.now.sum ++ [] in
    let groups = flat_map (after_bar value_text) c.args.row.now.groups in
    writes_stopped _ c.from_residual-in_err-write_after_bars.result a d _
    c.from_residual-in_err-write_after_bars.ensures.1
    (rw (row_sum_first c.args.query c.args.row.now (sym c.sum_stands_first.ensures ∙ c.if-sum_stands_first.true))
    (part_longer a d (sum ++ groups) (line_feed ++ [])
    (appends_part a b d sum groups c.in_ok-write_pieces.ensures
    (rw c.as_slice-groups.ensures at c.in_err-write_after_bars.ensures))))

pub returns-in_err-write_before_sum : goal.returns-in_err-write_before_sum
returns-in_err-write_before_sum g c =
    let contents = g.W.Write.contents in
    let a = contents c.args.writer.now in
    let b = contents c.write_before_sum.new.writer in
    let groups = flat_map with_bar c.args.row.now.groups in
    writes_stopped _ c.from_residual-in_err-write_before_sum.result a b _
    c.from_residual-in_err-write_before_sum.ensures.1
    (rw (row_sum_last c.args.query c.args.row.now (sym c.sum_stands_first.ensures ∙ c.if-sum_stands_first.false))
    (part_longer a b groups (sum_text c.args.row.now.sum ++ (line_feed ++ []))
    (rw c.as_slice-groups.ensures at c.in_err-write_before_sum.ensures)))

pub returns-in_ok-write_after_bars : goal.returns-in_ok-write_after_bars
returns-in_ok-write_after_bars g c =
    let contents = g.W.Write.contents in
    let a = contents c.args.writer.now in
    let b = contents c.write_pieces.new.writer in
    let d = contents c.write_after_bars.new.writer in
    let sum = sum_text c.args.row.now.sum ++ [] in
    let groups = flat_map (after_bar value_text) c.args.row.now.groups in
    rw (row_sum_first c.args.query c.args.row.now (sym c.sum_stands_first.ensures ∙ c.if-sum_stands_first.true))
    (writes_next a d _ (sum ++ groups) (line_feed ++ []) c.write_pieces-then-sum_stands_first.result
    (appends_both a b d sum groups c.in_ok-write_pieces.ensures
    (rw c.as_slice-groups.ensures at c.in_ok-write_after_bars.ensures))
    c.write_pieces-then-sum_stands_first.ensures)

pub returns-in_ok-write_before_sum : goal.returns-in_ok-write_before_sum
returns-in_ok-write_before_sum g c =
    let contents = g.W.Write.contents in
    let a = contents c.args.writer.now in
    let b = contents c.write_before_sum.new.writer in
    rw (row_sum_last c.args.query c.args.row.now (sym c.sum_stands_first.ensures ∙ c.if-sum_stands_first.false))
    (writes_next a b _ (flat_map with_bar c.args.row.now.groups) (sum_text c.args.row.now.sum ++ (line_feed ++ []))
    c.write_pieces-else-sum_stands_first.result
    (rw c.as_slice-groups.ensures at c.in_ok-write_before_sum.ensures) c.write_pieces-else-sum_stands_first.ensures)
