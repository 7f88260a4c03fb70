-- Each turn adds the row of its number, if it has combinations.
use Rattle.std.proofs.Common.{ℕ, ◌∙◌, ◌++◌, ◌∷◌, [], List, get_or, Some, ap, sym, rules}
use Rattle.std.specs.Prelude.{FitsSigned}
use Rattle.std.proofs.lemmas.Bool.{lt-ltb, le-ltb}
use Rattle.std.specs.Int.{w64}
use Rattle.std.proofs.lemmas.Int.{to_z-of_z}
use Rattle.ssb_questions.specs.declared.value.Value.{Value}
use Rattle.ssb_answers.specs.declared.answer.ResultRow.{ResultRow}
use Rattle.scan_kernel.specs.Groups.{group_values}
use Rattle.scan_kernel.proofs.SparseRowLaws.{row_more, row_same}
use Rattle.scan_kernel.proofs.sparse_rows.rows_of_numbers.Goals as goal
use Rattle.scan_kernel.proofs.sparse_rows.rows_of_numbers.Goals.{then-counts-at-gt0+in_ok-groups+in_ok-push}
use Rattle.scan_kernel.proofs.sparse_rows.rows_of_numbers.Goals.{else-counts-at-gt0}

pub loop-at-preserved : goal.loop-at-preserved
loop-at-preserved c =
    let numbers = c.args.numbers.now in
    let counts = c.args.counts.now in
    let sums = c.args.sums.now in
    let groups : ℕ → List Value = group_values c.args.columns.now in
    let n = c.loop-at.at in
    elim c.if-counts-at-gt0.branch [
      | then-counts-at-gt0+in_ok-groups+in_ok-push w ↦ let fits : FitsSigned w64 w.sum_at.result = search rules in
          rw w.rows-is (w.in_ok-push.ensures.items
          ∙ ap (λ (r : ResultRow). c.loop-at.rows.items ++ r ∷ []) w.row.ensures
          ∙ (λ i. c.loop-at.invariant i ++ record {
            groups = w.in_ok-groups.ensures i;
            sum = Some ((to_z-of_z w64 w.sum_at.result fits ∙ w.sum_at.ensures) i);
          } ∷ [])
          ∙ sym (row_more numbers counts sums c.requires.apart c.requires.counts c.requires.sums groups n
          c.loop-at-test.true (lt-ltb 0 (get_or counts n 0) w.if-counts-at-gt0.true)))
      | else-counts-at-gt0 w ↦ rw w.rows-is (c.loop-at.invariant
          ∙ sym (row_same numbers counts sums c.requires.apart c.requires.counts c.requires.sums groups n
          c.loop-at-test.true (le-ltb 0 (get_or counts n 0) w.if-counts-at-gt0.false)))
    ]
