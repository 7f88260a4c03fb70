-- Totals over places are the sums over the live lines.
use Rattle.std.proofs.Common.{ℕ, suc, ◌≡◌, ◌+◌, ◌*◌, ◌%◌, ◌^◌, ◌<◌, ◌≤◌, List, [], ◌∷◌, length, map, get_or, refl, sym}
use Rattle.std.proofs.Common.{ap, ◌∙◌, arith, zero-add}
use Rattle.std.specs.Prelude.{pos, ◌-ℤ◌}
use Rattle.std.specs.List.{range_with_len, sum_by}
use Rattle.std.proofs.Math.Nat.{mod-eq_of_lt, mul-le-mul_right}
use Rattle.std.proofs.lemmas.Int.{ints}
use Rattle.std.proofs.lemmas.List.Elements.{All-from_get_or}
use Rattle.std.proofs.lemmas.List.Sums.{sum_by-cons, sum_by-le}
use Rattle.ssb_schema.specs.declared.fact.Fact.{Fact}
use Rattle.ssb_questions.specs.declared.plan.Measure.{Measure}
use Rattle.ssb_questions.specs.declared.plan.Measure.TheVariants.{PriceTimesDiscount, Revenue, Profit, Quantity}
use Rattle.ssb_questions.specs.declared.plan.Measure.TheVariants.{ExtendedPrice, SupplyCost, Lines}
use Rattle.scan_kernel.specs.Lines.{price_times_discount, price, revenue, cost, quantity}
use Rattle.scan_kernel.specs.Scan.{line_sum}
use Rattle.scan_kernel.proofs.LineLaws.{sum_ones}

-- a list is what it has at each index
pub at_each : {A : Type 0} (xs : List A) (d : A) (a : ℕ) (ys : List A)
    → ((i : ℕ) → i < length xs → get_or ys (a + i) d ≡ get_or xs i d)
    → map (λ i. get_or ys i d) (range_with_len a (length xs)) ≡ xs
at_each [] d a ys h = refl
at_each (x ∷ xs) d a ys h =
    let first : get_or ys a d ≡ x = ap (λ (n : ℕ). get_or ys n d) (omega arith) ∙ h 0 (omega arith) in
    let rest : map (λ i. get_or ys i d) (range_with_len (a + 1) (length xs)) ≡ xs =
    at_each xs d (a + 1) ys (λ i below. ap (λ (n : ℕ). get_or ys n d) (omega arith) ∙ h (suc i) (omega (arith, below)))
    in
    λ j. first j ∷ rest j

pub list_at : {A : Type 0} (xs : List A) (d : A) → map (λ i. get_or xs i d) (range_with_len 0 (length xs)) ≡ xs
list_at xs d = at_each xs d 0 xs (λ i below. ap (λ (n : ℕ). get_or xs n d) (zero-add i))

pub map_twice : {A B C : Type 0} (f : B → C) (g : A → B) (xs : List A) → map f (map g xs) ≡ map (λ x. f (g x)) xs
map_twice f g [] = refl
map_twice f g (x ∷ xs) = ap (λ ys. f (g x) ∷ ys) (map_twice f g xs)

pub sum_mapped : {A : Type 0} (f : A → ℕ) (g : ℕ → A) (h : ℕ → ℕ) → ((i : ℕ) → h i ≡ f (g i)) → (xs : List ℕ)
    → sum_by f (map g xs) ≡ sum_by h xs
sum_mapped f g h same [] = refl
sum_mapped f g h same (x ∷ xs) = sum_by-cons f (g x) (map g xs) ∙ (λ j. sym (same x) j + sum_mapped f g h same xs j)
    ∙ sym (sum_by-cons h x xs)

-- what a fact adds to the measure, and takes away
abbrev pub gain_of : Measure → Fact → ℕ
gain_of PriceTimesDiscount fact = price_times_discount fact
gain_of Revenue fact = revenue fact
gain_of Profit fact = revenue fact
gain_of Quantity fact = quantity fact
gain_of ExtendedPrice fact = price fact
gain_of SupplyCost fact = cost fact
gain_of Lines fact = 1

abbrev pub loss_of : Measure → Fact → ℕ
loss_of PriceTimesDiscount fact = 0
loss_of Revenue fact = 0
loss_of Profit fact = cost fact
loss_of Quantity fact = 0
loss_of ExtendedPrice fact = 0
loss_of SupplyCost fact = 0
loss_of Lines fact = 0

no_loss : (facts : List Fact) → sum_by (λ (fact : Fact). 0) facts ≡ 0
no_loss [] = refl
no_loss (fact ∷ facts) = no_loss facts

minus_none : (n m : ℕ) → m ≡ 0 → pos n -ℤ pos m ≡ pos n
minus_none n m e = omega (arith, ints, e)

pub line_sum_is : (measure : Measure) (facts : List Fact)
    → pos (sum_by (gain_of measure) facts) -ℤ pos (sum_by (loss_of measure) facts) ≡ line_sum measure facts
line_sum_is PriceTimesDiscount facts = minus_none _ _ (no_loss facts)
line_sum_is Revenue facts = minus_none _ _ (no_loss facts)
line_sum_is Profit facts = refl
line_sum_is Quantity facts = minus_none _ _ (no_loss facts)
line_sum_is ExtendedPrice facts = minus_none _ _ (no_loss facts)
line_sum_is SupplyCost facts = minus_none _ _ (no_loss facts)
line_sum_is Lines facts = minus_none _ _ (no_loss facts) ∙ ap pos (sum_ones facts)

-- below 2^64 the sums are exact
pub exact : (sum total : ℕ) → sum % 2 ^ 64 ≡ total % 2 ^ 64 → sum < 2 ^ 64 → total < 2 ^ 64 → sum ≡ total
exact sum total same fits few = sym (mod-eq_of_lt fits) ∙ same ∙ mod-eq_of_lt few

pub bounded : (amount : ℕ → ℕ) (most count limit : ℕ) (xs : List ℕ) → ((i : ℕ) → amount i ≤ most) → length xs ≤ count
    → count * most < limit → sum_by amount xs < limit
bounded amount most count limit xs small few fits =
    omega (
      arith,
      sum_by-le amount most xs (All-from_get_or (λ (i : ℕ). amount i ≤ most) xs 0
          (λ j _. small (get_or xs j 0))),
      mul-le-mul_right most few,
      fits,
    )
