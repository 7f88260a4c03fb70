use Rattle.std.proofs.Common.{[], ◌∷◌, ◌++◌, codes, decimal}
use Rattle.std.specs.List.{concat}
use Rattle.ssb_text.specs.Numbers.{line_feed}
use Rattle.ssb_report.specs.RefreshText.{cause_text}
use Rattle.ssb_text.proofs.WrittenLaws.{writes_stopped, writes_next, part_longer, appends_both, appends_part}
use Rattle.ssb_report.proofs.refresh.write_refused.Goals as goal

pub returns-in_err-write_pieces : goal.returns-in_err-write_pieces
returns-in_err-write_pieces g c =
    let contents = g.W.Write.contents in
    let a = contents c.args.writer.now in
    let b = contents c.write_pieces.new.writer in
    let head = concat (codes "refused at " ∷ decimal c.args.at ∷ codes " action " ∷ decimal c.args.action ∷ codes ": " ∷
    []) in
    let cause = cause_text c.args.cause in
    writes_stopped _ c.from_residual.result a b _ c.from_residual.ensures.1
    (part_longer a b (head ++ cause) line_feed (part_longer a b head cause c.in_err-write_pieces.ensures))

pub returns-in_err-write_cause : goal.returns-in_err-write_cause
returns-in_err-write_cause g c =
    let contents = g.W.Write.contents in
    let a = contents c.args.writer.now in
    let d = contents c.write_cause.new.writer in
    let head = concat (codes "refused at " ∷ decimal c.args.at ∷ codes " action " ∷ decimal c.args.action ∷ codes ": " ∷
    []) in
    let cause = cause_text c.args.cause in
    writes_stopped _ c.from_residual-in_err-write_cause.result a d _ c.from_residual-in_err-write_cause.ensures.1
    (part_longer a d (head ++ cause) line_feed
    (appends_part a (contents c.write_pieces.new.writer) d head cause c.in_ok-write_pieces.ensures
    c.in_err-write_cause.ensures))

pub returns : goal.returns
returns g c =
    let contents = g.W.Write.contents in
    let a = contents c.args.writer.now in
    let d = contents c.write_cause.new.writer in
    let head = concat (codes "refused at " ∷ decimal c.args.at ∷ codes " action " ∷ decimal c.args.action ∷ codes ": " ∷
    []) in
    let cause = cause_text c.args.cause in
    writes_next a d _ (head ++ cause) line_feed c.write_pieces-2.result
    (appends_both a (contents c.write_pieces.new.writer) d head cause c.in_ok-write_pieces.ensures
    c.in_ok-write_cause.ensures)
    c.write_pieces-2.ensures
