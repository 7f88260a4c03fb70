-- Rows made number by number.
use Rattle.std.proofs.Common.{ℕ, zero, ◌≡◌, ◌+◌, ◌*◌, ◌/◌, ◌%◌, ◌<◌, ◌≤◌, suc, List, [], ◌∷◌, ◌++◌, map, drop}
use Rattle.std.proofs.Common.{true, false, cond, ap, ◌∙◌, arith, add-one}
use Rattle.std.specs.Prelude.{ℤ, nat_lt, filter}
use Rattle.std.specs.List.{range_with_len}
use Rattle.std.proofs.lemmas.List.{append-nil, map-append}
use Rattle.std.proofs.lemmas.List.Elements.{filter-append}
use Rattle.ssb_questions.specs.declared.value.Value.{Value}
use Rattle.scan_kernel.specs.Groups.{size_of, counts_of, group_values}
use Rattle.scan_kernel.specs.Dense.{live, dense_row, dense_rows}

-- the values of the first columns stand, and the number of the others is left
pub record ValuesUpTo (columns : List (List Value)) (number at left : ℕ) (group : List Value) : Type 0 where
  pub below : left < size_of (counts_of (drop at columns))
  pub values : group ++ group_values (drop at columns) left ≡ group_values columns number

range_more : (a n : ℕ) → range_with_len a (n + 1) ≡ range_with_len a n ++ (a + n) ∷ []
range_more a n = rw add-one (more a n)
  where
    more : (a n : ℕ) → range_with_len a (suc n) ≡ range_with_len a n ++ (a + n) ∷ []
    more a zero = ap (λ k. k ∷ []) (omega arith)
    more a (suc n) = ap (λ t. a ∷ t) (more (a + 1) n ∙ ap (λ k. range_with_len (a + 1) n ++ k ∷ []) (omega arith))

module _ (groups : ℕ → List Value) (count : ℕ → ℕ) (sum : ℕ → ℤ) (n : ℕ) where
  live_more : live (n + 1) count ≡ live n count ++ cond (nat_lt 0 (count n)) (n ∷ []) []
  live_more =
      ap (filter (λ g. nat_lt 0 (count g))) (range_more 0 n ∙ ap (λ k. range_with_len 0 n ++ k ∷ []) (omega arith))
      ∙ filter-append (λ g. nat_lt 0 (count g)) (range_with_len 0 n) (n ∷ [])

  pub rows_push : nat_lt 0 (count n) ≡ true → dense_rows (n + 1) groups count sum ≡ dense_rows n groups count sum
      ++ dense_row groups sum n ∷ []
  rows_push t = ap (map (dense_row groups sum)) (live_more ∙ ap (λ b. live n count ++ cond b (n ∷ []) []) t)
      ∙ map-append (dense_row groups sum) (live n count) (n ∷ [])

  pub rows_stay : nat_lt 0 (count n) ≡ false → dense_rows (n + 1) groups count sum ≡ dense_rows n groups count sum
  rows_stay f = ap (map (dense_row groups sum)) (live_more ∙ ap (λ b. live n count ++ cond b (n ∷ []) []) f
      ∙ append-nil (live n count))
