use Rattle.std.proofs.Common.{◌≡◌, ◌+◌, not, nat_eq, [], ◌∷◌, take, rules, sym, ap, ◌∙◌, subst, append-nil}
use Rattle.std.specs.HashSet.{contains}
use Rattle.ssb_schema.specs.Rows.{line_values}
use Rattle.ssb_text.specs.TableText.{row_text}
use Rattle.ssb_text.specs.Written.{StopsShort}
use Rattle.export_command.specs.Standing.{left_of_loaded}
use Rattle.export_command.proofs.StepLaws.{line_goes, line_stays, loaded_both, step_left_out, step_stopped}
use Rattle.export_command.proofs.StepLaws.{step_written}
use Rattle.export_command.proofs.WritingLaws.{HasWritten, line_written, writes_part}
use Rattle.export_command.proofs.writing.write_loaded.Goals.{then-has_loaded+in_ok-write_row, else-has_loaded}
use Rattle.export_command.proofs.writing.write_loaded.Goals as goal

pub returns-in_err-write_row : goal.returns-in_err-write_row
returns-in_err-write_row g c =
    let contents = g.W.Write.contents in
    let old = contents c.args.out.now in
    let mid = contents c.loop-line.out in
    let new = contents c.write_row.new.writer in
    let gone = contains nat_eq c.args.orders.now.gone in
    let lines = c.args.lines.now in
    let line = c.line-item.result in
    let told : not (gone line.order_key) ≡ c.has_loaded.result =
    subst (λ key. not (gone key) ≡ c.has_loaded.result) c.order_key.ensures
    (sym {b = not (gone c.order_key.result)} c.has_loaded.ensures) in
    writes_part _ c.from_residual.result old new (left_of_loaded gone lines) c.from_residual.ensures.1
    (step_stopped (left_of_loaded gone) (loaded_both gone) lines c.loop-line.line-index line (search rules)
    c.line-item.is old mid new (line ∷ []) (line_stays gone line (told ∙ c.if-has_loaded.true)) c.loop-line.invariant
    (subst (StopsShort mid new) (sym (append-nil (row_text (line_values line)))) c.in_err-write_row.ensures.text))

pub loop-line-preserved : goal.loop-line-preserved
loop-line-preserved g c =
    let contents = g.W.Write.contents in
    let old = contents c.args.out.now in
    let mid = contents c.loop-line.out in
    let gone = contains nat_eq c.args.orders.now.gone in
    let lines = c.args.lines.now in
    let i = c.loop-line.line-index in
    let line = c.line-item.result in
    let told : not (gone line.order_key) ≡ c.has_loaded.result =
    subst (λ key. not (gone key) ≡ c.has_loaded.result) c.order_key.ensures
    (sym {b = not (gone c.order_key.result)} c.has_loaded.ensures) in
    elim c.if-has_loaded.branch [
      | then-has_loaded+in_ok-write_row w ↦
          let new = contents w.write_row.new.writer in
          subst (λ now. HasWritten old now (left_of_loaded gone (take (i + 1) lines))) (sym (ap contents w.out-is))
          (step_written (left_of_loaded gone) (loaded_both gone) lines i line (search rules) c.line-item.is old mid new
          (line ∷ []) (line_stays gone line (told ∙ w.if-has_loaded.true)) c.loop-line.invariant
          (line_written mid new line w.in_ok-write_row.ensures.text w.in_ok-write_row.ensures.row))
      | else-has_loaded w ↦
          subst (λ now. HasWritten old now (left_of_loaded gone (take (i + 1) lines))) (sym (ap contents w.out-is))
          (step_left_out (left_of_loaded gone) (loaded_both gone) lines i line (search rules) c.line-item.is old mid
          (line_goes gone line (told ∙ w.if-has_loaded.false)) c.loop-line.invariant)
    ]
