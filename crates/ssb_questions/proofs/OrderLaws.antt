-- In each plan the order names every group column, so that no two groups tie.
use Rattle.std.proofs.Common.{◌≡◌, ◌≢◌, ℕ, ◌<◌, ◌≤◌, ◌+◌, zero, suc, Bool, true, false, nat_eq, List, ◌∷◌, map, length}
use Rattle.std.proofs.Common.{refl, ap, inl}
use Rattle.std.proofs.Common.{inr, arith}
use Rattle.std.specs.List.{range_with_len, filter_map}
use Rattle.std.specs.Cmp.{unsigned_Decides}
use Rattle.ssb_questions.specs.declared.value.Value.{Value}
use Rattle.ssb_questions.specs.declared.plan.OrderKey.TheVariants.{Group}
use Rattle.ssb_questions.specs.declared.query.Query.{Query}
use Rattle.ssb_questions.specs.declared.query.Query.TheVariants.{Q1_1, Q1_2, Q1_3, Q2_1, Q2_2, Q2_3, Q3_1, Q3_2, Q3_3}
use Rattle.ssb_questions.specs.declared.query.Query.TheVariants.{Q3_4}
use Rattle.ssb_questions.specs.declared.query.Query.TheVariants.{Q4_1, Q4_2, Q4_3, Star}
use Rattle.ssb_questions.specs.Members.{Has}
use Rattle.ssb_questions.specs.Queries.{plan_over, by_two_columns, by_three_columns, by_year_and_sum}
use Rattle.ssb_questions.specs.Clauses.{clauses_of}
use Rattle.ssb_questions.specs.Plan.{OrdersAllGroups}
use Rattle.ssb_questions.specs.Star.{group_in, order_of}

below_2 : (P : ℕ → Type 0) → P 0 → P 1 → (place : ℕ) → place < 2 → P place
below_2 P a b zero h = a
below_2 P a b (suc zero) h = b
below_2 P a b (suc (suc n)) h = absurd (omega (arith, h))

below_3 : (P : ℕ → Type 0) → P 0 → P 1 → P 2 → (place : ℕ) → place < 3 → P place
below_3 P a b c zero h = a
below_3 P a b c (suc zero) h = b
below_3 P a b c (suc (suc zero)) h = c
below_3 P a b c (suc (suc (suc n))) h = absurd (omega (arith, h))

two : (place : ℕ) → place < 2 → Has by_two_columns (Group place)
two = below_2 (λ place. Has by_two_columns (Group place)) (inl refl) (inr (inl refl))

three : (place : ℕ) → place < 3 → Has by_three_columns (Group place)
three = below_3 (λ place. Has by_three_columns (Group place)) (inl refl) (inr (inl refl)) (inr (inr (inl refl)))

by_year : (place : ℕ) → place < 3 → Has by_year_and_sum (Group place)
by_year = below_3 (λ place. Has by_year_and_sum (Group place)) (inr (inr (inl refl))) (inr (inr (inr (inl refl))))
    (inl refl)

-- of `star`, each place of a group column is in the order
keys : (n a place : ℕ) → a ≤ place → place < a + n → Has (map Group (range_with_len a n)) (Group place)
keys zero a place from to = absurd (omega (arith, from, to))
keys (suc n) a place from to =
    elim (nat_eq place a) as (λ b. nat_eq place a ≡ b
    → Has (Group a ∷ map Group (range_with_len (a + 1) n)) (Group place)) [
      | true ↦ λ t. inl (ap Group ((unsigned_Decides place a).0 t))
      | false ↦ λ f. inr (keys n (a + 1) place (let other : place ≢ a = λ e. let t :
          nat_eq place a ≡ true = (unsigned_Decides place a).1 e in cc in omega (arith, from, other))
          (omega (arith, to)))
    ] refl

by_all : (by_sum : Bool) (n place : ℕ) → place < n → Has (order_of by_sum n) (Group place)
by_all true n place h = inr (keys n 0 place (omega arith) (omega (arith, h)))
by_all false n place h = keys n 0 place (omega arith) (omega (arith, h))

pub orders_all_groups : (query : Query) (constants : List Value) → OrdersAllGroups (plan_over query constants)
orders_all_groups Q1_1 constants = λ place h. absurd (omega (arith, h))
orders_all_groups Q1_2 constants = λ place h. absurd (omega (arith, h))
orders_all_groups Q1_3 constants = λ place h. absurd (omega (arith, h))
orders_all_groups Q2_1 constants = two
orders_all_groups Q2_2 constants = two
orders_all_groups Q2_3 constants = two
orders_all_groups Q3_1 constants = by_year
orders_all_groups Q3_2 constants = by_year
orders_all_groups Q3_3 constants = by_year
orders_all_groups Q3_4 constants = by_year
orders_all_groups Q4_1 constants = two
orders_all_groups Q4_2 constants = three
orders_all_groups Q4_3 constants = three
orders_all_groups Star constants = by_all _ (length (filter_map group_in (clauses_of constants)))
