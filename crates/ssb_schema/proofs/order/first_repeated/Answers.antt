use Rattle.std.proofs.Common.{◌≡◌, ◌∙◌, true, false, Some, None, length, take, sym, ap, refl}
use Rattle.std.specs.List.{slice_get, list_any}
use Rattle.std.proofs.lemmas.Option.{slice_get_read}
use Rattle.ssb_schema.specs.Orders.{repeated_number, has_number_of}
use Rattle.ssb_schema.specs.declared.fault.SchemaFault.TheVariants as fault
use Rattle.ssb_schema.proofs.FirstFaultLaws.{rows_fault_next, rows_fault_ends, or_else_found, or_else_absent}
use Rattle.ssb_schema.proofs.order.first_repeated.Goals as goal

pub returns-then-has_number : goal.returns-then-has_number
returns-then-has_number c =
    let lines = c.args.lines.now in
    let line = c.index-lines-i.result in
    let at : slice_get lines c.loop-i.i ≡ Some line
    = slice_get_read lines (length lines) c.loop-i.i line refl c.loop-i-test.true c.index-lines-i.is in
    let found : list_any (λ e. has_number_of e line) (take c.loop-i.i lines) ≡ true
    = sym (rw c.line_number-number.ensures at c.has_number.ensures) ∙ c.if-has_number.true in
    let here : repeated_number (take c.loop-i.i lines) line ≡ Some (fault.LineRepeated c.line_number-number.result)
    = rw found (ap (λ n. Some (fault.LineRepeated n)) (sym c.line_number-number.ensures)) in
    sym (sym c.loop-i.invariant ∙ rows_fault_next repeated_number lines c.loop-i.i line at ∙ or_else_found _ _ _ here)

pub loop-i-preserved : goal.loop-i-preserved
loop-i-preserved c =
    let lines = c.args.lines.now in
    let line = c.index-lines-i.result in
    let at : slice_get lines c.loop-i.i ≡ Some line
    = slice_get_read lines (length lines) c.loop-i.i line refl c.loop-i-test.true c.index-lines-i.is in
    let absent : list_any (λ e. has_number_of e line) (take c.loop-i.i lines) ≡ false
    = sym (rw c.line_number-number.ensures at c.has_number.ensures) ∙ c.if-has_number.false in
    let here : repeated_number (take c.loop-i.i lines) line ≡ None = rw absent refl in
    sym (rows_fault_next repeated_number lines c.loop-i.i line at ∙ or_else_absent _ _ here) ∙ c.loop-i.invariant

pub returns : goal.returns
returns c = sym (rows_fault_ends repeated_number _ c.args.lines.now c.loop-i.i c.loop-i-test.false) ∙ c.loop-i.invariant
