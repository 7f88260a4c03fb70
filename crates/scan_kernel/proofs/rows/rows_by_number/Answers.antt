-- Each turn adds the row of its number, if it has combinations.
use Rattle.std.proofs.Common.{ℕ, ◌∙◌, ◌++◌, ◌∷◌, [], List, Some, ap, sym, rules}
use Rattle.std.specs.Prelude.{ℤ, pos, FitsSigned, slice_index, slice_index_or}
use Rattle.std.proofs.lemmas.Bool.{lt-ltb, le-ltb}
use Rattle.std.specs.Int.{w64}
use Rattle.std.proofs.lemmas.Int.{to_z-of_z}
use Rattle.ssb_questions.specs.declared.value.Value.{Value}
use Rattle.ssb_answers.specs.declared.answer.ResultRow.{ResultRow}
use Rattle.scan_kernel.specs.Groups.{group_values}
use Rattle.scan_kernel.proofs.RowLaws.{rows_push, rows_stay}
use Rattle.scan_kernel.proofs.rows.rows_by_number.Goals as goal
use Rattle.scan_kernel.proofs.rows.rows_by_number.Goals.{then-counts-number-gt0+in_ok-groups+in_ok-push}
use Rattle.scan_kernel.proofs.rows.rows_by_number.Goals.{else-counts-number-gt0}

pub loop-number-preserved : goal.loop-number-preserved
loop-number-preserved c =
    let groups : ℕ → List Value = group_values c.args.columns.now in
    let count : ℕ → ℕ = λ g. slice_index c.args.counts.now g in
    let sum : ℕ → ℤ = λ g. slice_index_or c.args.sums.now g (pos 0) in
    let n = c.loop-number.number in
    elim c.if-counts-number-gt0.branch [
      | then-counts-number-gt0+in_ok-groups+in_ok-push w ↦ let fits : FitsSigned w64 w.sum_at.result = search rules in
          rw w.rows-is (w.in_ok-push.ensures.items
          ∙ ap (λ (r : ResultRow). c.loop-number.rows.items ++ r ∷ []) w.row.ensures
          ∙ (λ i. c.loop-number.invariant i ++ record {
            groups = w.in_ok-groups.ensures i;
            sum = Some ((to_z-of_z w64 w.sum_at.result fits ∙ w.sum_at.ensures) i);
          } ∷ [])
          ∙ sym (rows_push groups count sum n (lt-ltb 0 (count n) w.if-counts-number-gt0.true)))
      | else-counts-number-gt0 w ↦ rw w.rows-is (c.loop-number.invariant
          ∙ sym (rows_stay groups count sum n (le-ltb 0 (count n) w.if-counts-number-gt0.false)))
    ]
