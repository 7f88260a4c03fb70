use Rattle.std.proofs.Common.{◌≡◌, ◌∙◌, false, Some, length, take, sym, refl, arith}
use Rattle.std.specs.List.{slice_get, list_any}
use Rattle.std.proofs.lemmas.Option.{slice_get_read}
use Rattle.ssb_base.specs.Base.{line_fault}
use Rattle.ssb_base.proofs.BaseLaws.{few_rows, line_unknown, line_good}
use Rattle.ssb_schema.proofs.FirstFaultLaws.{rows_fault_next, rows_fault_ends, or_else_found, or_else_absent}
use Rattle.ssb_base.proofs.PairLaws.{same_pair, line_key, new_next}
use Rattle.ssb_base.proofs.base.check_lines.Goals as goal

pub returns-then-not-is_after : goal.returns-then-not-is_after
returns-then-not-is_after c = λ dimensions indexed.
    rw (few_rows _ _ _ c.args.lines.now c.if-lines-limit.false) (c.check_any_lines.ensures dimensions indexed)

pub returns-in-Some : goal.returns-in-Some
returns-in-Some c = λ dimensions indexed.
    let lines = c.args.lines.now in
    let line = c.index-lines-i.result in
    let at : slice_get lines c.loop-i.i ≡ Some line
    = slice_get_read lines (length lines) c.loop-i.i line refl c.loop-i-test.true c.index-lines-i.is in
    let absent : list_any (λ e. same_pair (line_key e) (line_key line)) (take c.loop-i.i lines) ≡ false
    = c.loop-i.invariant.new (line_key line) (c.is_after.ensures c.if-not-is_after.false) in
    few_rows _ _ _ lines c.if-lines-limit.false ∙ sym (c.loop-i.invariant.rest dimensions indexed)
    ∙ rows_fault_next (line_fault dimensions) lines c.loop-i.i line at
    ∙ or_else_found _ _ _
    (line_unknown dimensions lines c.loop-i.i line c.in-Some.table at absent (sym (c.unknown.ensures dimensions indexed)
    ∙ c.in-Some.is))

pub loop-i-preserved : goal.loop-i-preserved
loop-i-preserved c =
    let lines = c.args.lines.now in
    let line = c.index-lines-i.result in
    let at : slice_get lines c.loop-i.i ≡ Some line
    = slice_get_read lines (length lines) c.loop-i.i line refl c.loop-i-test.true c.index-lines-i.is in
    let later = c.is_after.ensures c.if-not-is_after.false in
    let absent : list_any (λ e. same_pair (line_key e) (line_key line)) (take c.loop-i.i lines) ≡ false
    = c.loop-i.invariant.new (line_key line) later in
    record {
      rest = λ dimensions indexed. sym (rows_fault_next (line_fault dimensions) lines c.loop-i.i line at
          ∙ or_else_absent _ _
          (line_good dimensions (take c.loop-i.i lines) line absent (sym (c.unknown.ensures dimensions indexed)
          ∙ c.in_default.is))) ∙ c.loop-i.invariant.rest dimensions indexed;
      new = λ q above. new_next lines c.loop-i.i line q at (omega (arith, above))
          (c.loop-i.invariant.new q (omega (arith, above, later)));
    }

pub returns : goal.returns
returns c = λ dimensions indexed.
    let lines = c.args.lines.now in
    few_rows _ _ _ lines c.if-lines-limit.false ∙ sym (c.loop-i.invariant.rest dimensions indexed)
    ∙ rows_fault_ends (line_fault dimensions) _ lines c.loop-i.i c.loop-i-test.false
