-- The rows of the groups with combinations, sorted, are the answer; without groups it is the one row.
use Rattle.std.proofs.Common.{ℕ, zero, suc, false, ◌≡◌, ◌<◌, ◌∙◌, List, [], ◌∷◌, length, get_or, cond, Some, None, sym}
use Rattle.std.proofs.Common.{ap, subst, arith, refl, rules}
use Rattle.std.specs.Prelude.{ℤ, pos, FitsSigned, IsPermutation, nat_eq, nat_lt}
use Rattle.std.specs.Cmp.{unsigned_Decides}
use Rattle.std.specs.Int.{w64}
use Rattle.std.proofs.lemmas.Int.{to_z-of_z}
use Rattle.std.proofs.lemmas.Result.{IfOk-weaker}
use Rattle.ssb_questions.specs.declared.value.Value.{Value}
use Rattle.ssb_answers.specs.declared.answer.ResultRow.{ResultRow}
use Rattle.ssb_answers.proofs.RowLaws.{non_empty}
use Rattle.scan_kernel.specs.Groups.{group_values, size_of, counts_of}
use Rattle.scan_kernel.specs.SparseRows.{count_of, sum_of}
use Rattle.scan_kernel.proofs.DenseLaws.{one_row_of_dense}
use Rattle.scan_kernel.proofs.SparseRowLaws.{beside_at, sparse_rows_answer}
use Rattle.scan_kernel.proofs.sparse_rows.answer_sparse.Goals as goal

empty : {X : Type 0} (xs : List X) → length xs ≡ 0 → xs ≡ []
empty [] e = refl
empty (x ∷ xs) e = absurd (omega (arith, e))

positive : (n : ℕ) → nat_eq n 0 ≡ false → 0 < n
positive zero e = cc
positive (suc n) e = omega arith

pub returns-then-is_empty : goal.returns-then-is_empty
returns-then-is_empty c =
    let groups : ℕ → List Value = group_values c.args.columns.now in
    let count : ℕ → ℕ = count_of c.args.numbers.now c.args.counts.now in
    let sum : ℕ → ℤ = sum_of c.args.numbers.now c.args.sums.now in
    let plan = c.args.plan.now in
    let none : plan.groups ≡ [] = empty plan.groups (sym c.len.ensures ∙ c.if-len-eq0.true) in
    let no_columns : c.args.columns.now ≡ [] = empty c.args.columns.now (c.requires.columns ∙ ap length none) in
    let one : size_of (counts_of c.args.columns.now) ≡ 1 =
    ap (λ (cs : List (List Value)). size_of (counts_of cs)) no_columns in
    let no_numbers : c.args.numbers.now ≡ [] = empty c.args.numbers.now
    ((unsigned_Decides (length c.args.numbers.now) 0).0 (sym c.is_empty.ensures ∙ c.if-is_empty.true)) in
    let no_count : 0 ≡ count 0 = sym (ap (λ (ns : List ℕ). count_of ns c.args.counts.now 0) no_numbers) in
    let no_sum : pos 0 ≡ sum 0 = sym (ap (λ (ns : List ℕ). sum_of ns c.args.sums.now 0) no_numbers) in
    IfOk-weaker c.total_row.result _ _ (λ rows is found number dense.
    is ∙ (λ i. record { groups = []; sum = cond (nat_lt 0 (no_count i)) (Some (no_sum i)) None } ∷ [])
    ∙ one_row_of_dense plan found number (size_of (counts_of c.args.columns.now)) groups count sum none one dense)
    c.total_row.ensures

pub returns-then-len-eq0 : goal.returns-then-len-eq0
returns-then-len-eq0 c =
    let groups : ℕ → List Value = group_values c.args.columns.now in
    let numbers = c.args.numbers.now in
    let counts = c.args.counts.now in
    let sums = c.args.sums.now in
    let count : ℕ → ℕ = count_of numbers counts in
    let sum : ℕ → ℤ = sum_of numbers sums in
    let plan = c.args.plan.now in
    let fits : FitsSigned w64 c.sum_at.result = search rules in
    let none : plan.groups ≡ [] = empty plan.groups (sym c.len.ensures ∙ c.if-len-eq0.true) in
    let no_columns : c.args.columns.now ≡ [] = empty c.args.columns.now (c.requires.columns ∙ ap length none) in
    let one : size_of (counts_of c.args.columns.now) ≡ 1 =
    ap (λ (cs : List (List Value)). size_of (counts_of cs)) no_columns in
    let some : 0 < length numbers = positive (length numbers) (sym c.is_empty.ensures ∙ c.if-is_empty.false) in
    let zero : get_or numbers 0 0 ≡ 0 = omega (arith, one, c.requires.below 0 0 some) in
    let count_is : get_or counts 0 0 ≡ count 0 = sym (beside_at 0 numbers counts 0 c.requires.apart c.requires.counts
    some) ∙ ap count zero in
    let sum_is : get_or sums 0 (pos 0) ≡ sum 0 = sym (beside_at (pos 0) numbers sums 0 c.requires.apart c.requires.sums
    some) ∙ ap sum zero in
    IfOk-weaker c.total_row-then-len-eq0.result _ _ (λ rows is found number dense.
    is ∙ (λ i. record {
      groups = [];
      sum = cond (nat_lt 0 (count_is i))
          (Some ((to_z-of_z w64 c.sum_at.result fits ∙ c.sum_at.ensures ∙ sum_is) i)) None;
    } ∷ [])
    ∙ one_row_of_dense plan found number (size_of (counts_of c.args.columns.now)) groups count sum none one dense)
    c.total_row-then-len-eq0.ensures

pub returns : goal.returns
returns c = λ found number dense.
    let groups : ℕ → List Value = group_values c.args.columns.now in
    let numbers = c.args.numbers.now in
    let count : ℕ → ℕ = count_of numbers c.args.counts.now in
    let sum : ℕ → ℤ = sum_of numbers c.args.sums.now in
    let plan = c.args.plan.now in
    let some = non_empty plan.groups (λ none. c.if-len-eq0.false (c.len.ensures ∙ none)) in
    let moved = subst (λ (rows : List ResultRow). IsPermutation rows c.sort_rows.new.rows.items) c.in_ok-rows.ensures
    c.in_ok-sort_rows.ensures.same_rows in
    sparse_rows_answer numbers c.args.counts.now c.args.sums.now c.requires.apart c.requires.counts c.requires.sums
    plan found number (size_of (counts_of c.args.columns.now)) groups
    c.requires.below dense c.requires.ordered (record { first = some.0; others = some.1; are = some.2 })
    c.sort_rows.new.rows.items moved c.in_ok-sort_rows.ensures.sorted
