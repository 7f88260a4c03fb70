use Rattle.std.proofs.Common.{flat_map, sym, subst}
use Rattle.row_store.specs.History.{lines_after}
use Rattle.row_store.specs.Lines.{lines_after_refresh, lines_of}
use Rattle.ssb_schema.specs.Orders.{order_key}
use Rattle.ssb_text.proofs.WrittenLaws.{part_longer, writes_next, writes_stopped}
use Rattle.ssb_text.specs.Written.{StopsShort, Writes}
use Rattle.std.specs.Io.KnownBytes.{Appends}
use Rattle.changes_command.specs.Signed.{changes_by}
use Rattle.changes_command.specs.SignedText.{lines_text, signed_text}
use Rattle.changes_command.specs.declared.signed.Sign.TheVariants.{Came, Went}
use Rattle.changes_command.proofs.TextLaws.{text_of_added, text_of_replaced, text_of_withdrawn}
use Rattle.changes_command.proofs.writing.write_action.Goals as goal

pub returns-in-Add : goal.returns-in-Add
returns-in-Add g c =
    let contents = g.W.Write.contents in
    let a = contents c.args.out.now in
    let b = contents c.write_lines.new.out in
    let r = c.write_lines.result in
    let commit = c.args.commit in
    let now = lines_after_refresh (lines_after c.args.store.now.base c.args.store.now.log) c.args.earlier.now in
    subst (λ action. Writes a b r (lines_text c.args.format (changes_by commit now action))) (sym c.in-Add.is)
    (subst (Writes a b r) (sym (text_of_added c.args.format commit now c.in-Add.order))
    (subst (λ lines. Writes a b r (flat_map (signed_text c.args.format commit Came) lines)) c.lines.ensures.lines
    c.write_lines.ensures))

pub returns-in_err-write_taken-in-Amend : goal.returns-in_err-write_taken-in-Amend
returns-in_err-write_taken-in-Amend g c =
    let contents = g.W.Write.contents in
    let a = contents c.args.out.now in
    let b = contents c.write_taken-in-Amend.new.out in
    let r = c.from_residual.result in
    let commit = c.args.commit in
    let order = c.in-Amend.order in
    let now = lines_after_refresh (lines_after c.args.store.now.base c.args.store.now.log) c.args.earlier.now in
    let went = flat_map (signed_text c.args.format commit Went) (lines_of (order_key order) now) in
    let came = flat_map (signed_text c.args.format commit Came) order in
    subst (Writes a b r)
    (sym (text_of_replaced c.args.format commit now c.args.action.now order c.in-Amend.is))
    (writes_stopped _ r a b _ c.from_residual.ensures.1
    (part_longer a b went came
    (subst (λ key. StopsShort a b (flat_map (signed_text c.args.format commit Went) (lines_of key now))) c.key.ensures
    c.in_err-write_taken-in-Amend.ensures)))

pub returns-in_ok-write_taken-in-Amend : goal.returns-in_ok-write_taken-in-Amend
returns-in_ok-write_taken-in-Amend g c =
    let contents = g.W.Write.contents in
    let a = contents c.args.out.now in
    let b = contents c.write_taken-in-Amend.new.out in
    let e = contents c.write_lines-in-Amend.new.out in
    let r = c.write_lines-in-Amend.result in
    let commit = c.args.commit in
    let order = c.in-Amend.order in
    let now = lines_after_refresh (lines_after c.args.store.now.base c.args.store.now.log) c.args.earlier.now in
    let went = flat_map (signed_text c.args.format commit Went) (lines_of (order_key order) now) in
    let came = flat_map (signed_text c.args.format commit Came) order in
    subst (Writes a e r)
    (sym (text_of_replaced c.args.format commit now c.args.action.now order c.in-Amend.is))
    (writes_next a b e went came r
    (subst (λ key. Appends a b (flat_map (signed_text c.args.format commit Went) (lines_of key now))) c.key.ensures
    c.in_ok-write_taken-in-Amend.ensures)
    (subst (λ lines. Writes b e r (flat_map (signed_text c.args.format commit Came) lines)) c.lines-in-Amend.ensures.lines
    c.write_lines-in-Amend.ensures))

pub returns-in-Withdraw : goal.returns-in-Withdraw
returns-in-Withdraw g c =
    let contents = g.W.Write.contents in
    let a = contents c.args.out.now in
    let b = contents c.write_taken.new.out in
    let r = c.write_taken.result in
    let commit = c.args.commit in
    let now = lines_after_refresh (lines_after c.args.store.now.base c.args.store.now.log) c.args.earlier.now in
    subst (λ action. Writes a b r (lines_text c.args.format (changes_by commit now action))) (sym c.in-Withdraw.is)
    (subst (Writes a b r) (sym (text_of_withdrawn c.args.format commit c.in-Withdraw.key now)) c.write_taken.ensures)
