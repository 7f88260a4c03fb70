-- The rows by number, sorted, are the answer; without groups it is the one row.
use Rattle.std.proofs.Common.{ℕ, ◌≡◌, ◌∙◌, List, [], ◌∷◌, length, cond, Some, None, sym, ap, subst, arith, refl, rules}
use Rattle.std.specs.Prelude.{ℤ, pos, FitsSigned, slice_index, slice_index_or, IsPermutation, nat_lt}
use Rattle.std.specs.Int.{w64}
use Rattle.std.proofs.lemmas.Int.{to_z-of_z}
use Rattle.ssb_questions.specs.declared.value.Value.{Value}
use Rattle.ssb_answers.specs.declared.answer.ResultRow.{ResultRow}
use Rattle.ssb_answers.proofs.RowLaws.{non_empty}
use Rattle.std.proofs.lemmas.Result.{IfOk-weaker}
use Rattle.scan_kernel.specs.Groups.{group_values, size_of, counts_of}
use Rattle.scan_kernel.proofs.DenseLaws.{sorted_rows_answer, one_row_of_dense}
use Rattle.scan_kernel.proofs.rows.answer_rows.Goals as goal

empty : {X : Type 0} (xs : List X) → length xs ≡ 0 → xs ≡ []
empty [] e = refl
empty (x ∷ xs) e = absurd (omega (arith, e))

pub returns-then-len-eq0 : goal.returns-then-len-eq0
returns-then-len-eq0 c =
    let groups : ℕ → List Value = group_values c.args.columns.now in
    let count : ℕ → ℕ = λ g. slice_index c.args.counts.now g in
    let sum : ℕ → ℤ = λ g. slice_index_or c.args.sums.now g (pos 0) in
    let plan = c.args.plan.now in
    let fits : FitsSigned w64 c.sum_at.result = search rules in
    let none : plan.groups ≡ [] = empty plan.groups (sym c.len.ensures ∙ c.if-len-eq0.true) in
    let no_columns : c.args.columns.now ≡ [] = empty c.args.columns.now (c.requires.columns ∙ ap length none) in
    let one : length c.args.counts.now ≡ 1 = c.requires.counts
    ∙ ap (λ (cs : List (List Value)). size_of (counts_of cs)) no_columns in
    IfOk-weaker c.total_row.result _ _ (λ rows is found number dense.
    is ∙ ap (λ (s : ℤ). record { groups = []; sum = cond (nat_lt 0 (count 0)) (Some s) None } ∷ [])
    (to_z-of_z w64 c.sum_at.result fits ∙ c.sum_at.ensures)
    ∙ one_row_of_dense plan found number (length c.args.counts.now) groups count sum none one dense) c.total_row.ensures

pub returns : goal.returns
returns c = λ found number dense.
    let groups : ℕ → List Value = group_values c.args.columns.now in
    let count : ℕ → ℕ = λ g. slice_index c.args.counts.now g in
    let sum : ℕ → ℤ = λ g. slice_index_or c.args.sums.now g (pos 0) in
    let plan = c.args.plan.now in
    let some = non_empty plan.groups (λ none. c.if-len-eq0.false (c.len.ensures ∙ none)) in
    let moved = subst (λ (rows : List ResultRow). IsPermutation rows c.sort_rows.new.rows.items) c.in_ok-rows.ensures
    c.in_ok-sort_rows.ensures.same_rows in
    sorted_rows_answer plan found number (length c.args.counts.now) groups count sum dense c.requires.ordered
    c.sort_rows.new.rows.items (record { first = some.0; others = some.1; are = some.2 }) moved
    c.in_ok-sort_rows.ensures.sorted
