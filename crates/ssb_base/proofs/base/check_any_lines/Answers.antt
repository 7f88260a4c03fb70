use Rattle.std.proofs.Common.{◌≡◌, ◌∙◌, true, false, Some, length, take, sym, refl}
use Rattle.std.specs.List.{slice_get, list_any}
use Rattle.std.proofs.lemmas.Option.{slice_get_read}
use Rattle.ssb_base.specs.Base.{line_fault}
use Rattle.ssb_base.proofs.BaseLaws.{line_repeated, line_unknown, line_good}
use Rattle.ssb_schema.proofs.FirstFaultLaws.{not_is, rows_fault_next, rows_fault_ends, or_else_found, or_else_absent}
use Rattle.ssb_schema.proofs.FirstFaultLaws.{seen_next}
use Rattle.ssb_base.proofs.PairLaws.{same_pair, line_key}
use Rattle.ssb_base.proofs.base.check_any_lines.Goals as goal

pub returns-in-Ok-false : goal.returns-in-Ok-false
returns-in-Ok-false c = λ dimensions indexed.
    let lines = c.args.lines.now in
    let line = c.index-lines-i.result in
    let at : slice_get lines c.loop-i.i ≡ Some line
    = slice_get_read lines (length lines) c.loop-i.i line refl c.loop-i-test.true c.index-lines-i.is in
    let added = rw (c.order_key.ensures, c.line_number.ensures) at c.in-Ok-false.ensures.added in
    let found : list_any (λ e. same_pair (line_key e) (line_key line)) (take c.loop-i.i lines) ≡ true
    = sym (c.loop-i.invariant.seen (line_key line)) ∙ not_is _ _ (sym c.in-Ok-false.field-0-test ∙ added) in
    sym (c.loop-i.invariant.rest dimensions indexed)
    ∙ rows_fault_next (line_fault dimensions) lines c.loop-i.i line at
    ∙ or_else_found _ _ _ (line_repeated dimensions lines c.loop-i.i line at found)

pub returns-in-Some : goal.returns-in-Some
returns-in-Some c = λ dimensions indexed.
    let lines = c.args.lines.now in
    let line = c.index-lines-i.result in
    let at : slice_get lines c.loop-i.i ≡ Some line
    = slice_get_read lines (length lines) c.loop-i.i line refl c.loop-i-test.true c.index-lines-i.is in
    let added = rw (c.order_key.ensures, c.line_number.ensures) at c.in-Ok-true.ensures.added in
    let absent : list_any (λ e. same_pair (line_key e) (line_key line)) (take c.loop-i.i lines) ≡ false
    = sym (c.loop-i.invariant.seen (line_key line)) ∙ not_is _ _ (sym c.in-Ok-true.field-0-test ∙ added) in
    sym (c.loop-i.invariant.rest dimensions indexed)
    ∙ rows_fault_next (line_fault dimensions) lines c.loop-i.i line at
    ∙ or_else_found _ _ _
    (line_unknown dimensions lines c.loop-i.i line c.in-Some.table at absent (sym (c.unknown.ensures dimensions indexed)
    ∙ c.in-Some.is))

pub loop-i-preserved : goal.loop-i-preserved
loop-i-preserved c =
    let lines = c.args.lines.now in
    let line = c.index-lines-i.result in
    let at : slice_get lines c.loop-i.i ≡ Some line
    = slice_get_read lines (length lines) c.loop-i.i line refl c.loop-i-test.true c.index-lines-i.is in
    let added = rw (c.order_key.ensures, c.line_number.ensures) at c.in-Ok-true.ensures.added in
    let absent : list_any (λ e. same_pair (line_key e) (line_key line)) (take c.loop-i.i lines) ≡ false
    = sym (c.loop-i.invariant.seen (line_key line)) ∙ not_is _ _ (sym c.in-Ok-true.field-0-test ∙ added) in
    record {
      rest = λ dimensions indexed. sym (rows_fault_next (line_fault dimensions) lines c.loop-i.i line at
          ∙ or_else_absent _ _
          (line_good dimensions (take c.loop-i.i lines) line absent (sym (c.unknown.ensures dimensions indexed)
          ∙ c.in_default.is))) ∙ c.loop-i.invariant.rest dimensions indexed;
      seen = λ q. seen_next same_pair line_key lines c.loop-i.i line q _ _ at
          (rw (c.order_key.ensures, c.line_number.ensures) at (c.in-Ok-true.ensures.updates.0 q))
          (c.loop-i.invariant.seen q);
    }

pub returns : goal.returns
returns c = λ dimensions indexed.
    let lines = c.args.lines.now in
    sym (c.loop-i.invariant.rest dimensions indexed)
    ∙ rows_fault_ends (line_fault dimensions) _ lines c.loop-i.i c.loop-i-test.false
