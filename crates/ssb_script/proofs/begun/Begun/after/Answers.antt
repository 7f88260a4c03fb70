use Rattle.std.proofs.Common.{◌≡◌, ◌∙◌, ◌+◌, ◌∷◌, sym, true, false}
use Rattle.csv.specs.Records.{fields_of}
use Rattle.ssb_script.specs.Lines.{Abort, alone, is_abort, is_line, line_of, line_or_bad, word_of}
use Rattle.ssb_script.specs.Scripts.{checks_in, order_refused}
use Rattle.ssb_script.specs.Steps.{begun_in, line_of_row}
use Rattle.ssb_script.proofs.LineLaws.{line_of-abort, line_of-row, line_of-control}
use Rattle.ssb_script.proofs.StepLaws.{abort_not_refused, abort_step, found_in, line_not_refused, refused_later}
use Rattle.ssb_script.proofs.begun.Begun.after.Goals as goal

pub returns-then-is_line-clause-step : goal.returns-then-is_line-clause-step
returns-then-is_line-clause-step c =
    let fields = fields_of c.args.fields.now in
    let is_one = sym c.is_line.ensures ∙ c.if-is_line.true in
    let spelled : line_of fields ≡ line_of_row c.in_ok-of.field-0 =
    line_of-row fields c.word_of-word.result c.in_ok-of.field-0 c.word_of-word.ensures is_one c.in_ok-of.ensures in
    rw spelled c.with_row.ensures.step

pub returns-then-is_line-clause-fault : goal.returns-then-is_line-clause-fault
returns-then-is_line-clause-fault c =
    let fields = fields_of c.args.fields.now in
    let is_one = sym c.is_line.ensures ∙ c.if-is_line.true in
    let spelled : line_of fields ≡ line_of_row c.in_ok-of.field-0 =
    line_of-row fields c.word_of-word.result c.in_ok-of.field-0 c.word_of-word.ensures is_one c.in_ok-of.ensures in
    let is_one_here : is_line (word_of fields) ≡ true = rw (← c.word_of-word.ensures) is_one in
    let checks = checks_in (c.args.before + 1) (begun_in c.args.self) (line_of_row c.in_ok-of.field-0) in
    rw spelled (found_in c.with_row.result (c.args.before + 1) (line_of_row c.in_ok-of.field-0)
    (order_refused (begun_in c.args.self) (word_of fields) ∷ checks)
    (refused_later c.with_row.result (begun_in c.args.self) (word_of fields) checks
    (line_not_refused (begun_in c.args.self) (word_of fields) is_one_here) c.with_row.ensures.fault))

pub returns-then-is_abort-clause-step : goal.returns-then-is_abort-clause-step
returns-then-is_abort-clause-step c =
    let fields = fields_of c.args.fields.now in
    let is_one = sym c.is_abort.ensures ∙ c.if-is_abort.true in
    let spelled = line_of-abort fields c.word_of-word.result c.word_of-word.ensures is_one in
    rw spelled (abort_step c.with_abort.result (c.args.before + 1) (begun_in c.args.self) fields
    c.with_abort.ensures.step)

pub returns-then-is_abort-clause-fault : goal.returns-then-is_abort-clause-fault
returns-then-is_abort-clause-fault c =
    let fields = fields_of c.args.fields.now in
    let is_one = sym c.is_abort.ensures ∙ c.if-is_abort.true in
    let spelled = line_of-abort fields c.word_of-word.result c.word_of-word.ensures is_one in
    let is_one_here : is_abort (word_of fields) ≡ true = rw (← c.word_of-word.ensures) is_one in
    let checks = checks_in (c.args.before + 1) (begun_in c.args.self) (line_or_bad (alone Abort fields)) in
    rw spelled (found_in c.with_abort.result (c.args.before + 1) (line_or_bad (alone Abort fields))
    (order_refused (begun_in c.args.self) (word_of fields) ∷ checks)
    (refused_later c.with_abort.result (begun_in c.args.self) (word_of fields) checks
    (abort_not_refused (begun_in c.args.self) (word_of fields) is_one_here) c.with_abort.ensures.fault))

pub returns-clause-step : goal.returns-clause-step
returns-clause-step c =
    let fields = fields_of c.args.fields.now in
    let spelled = line_of-control fields c.word_of-word.result c.in_ok-control.control c.word_of-word.ensures
    c.in_ok-control.ensures in
    rw spelled c.with_control.ensures.step

pub returns-clause-fault : goal.returns-clause-fault
returns-clause-fault c =
    let fields = fields_of c.args.fields.now in
    let spelled = line_of-control fields c.word_of-word.result c.in_ok-control.control c.word_of-word.ensures
    c.in_ok-control.ensures in
    let is_other : is_line (word_of fields) ≡ false = rw (← c.word_of-word.ensures)
    (sym c.is_line.ensures ∙ c.if-is_line.false) in
    let is_none : is_abort (word_of fields) ≡ false = rw (← c.word_of-word.ensures)
    (sym c.is_abort.ensures ∙ c.if-is_abort.false) in
    rw (spelled, is_other, is_none) c.with_control.ensures.fault
