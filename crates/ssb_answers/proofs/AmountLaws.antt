-- A sum of amounts is the sum of what they gain less the sum of what they lose, and neither passes 63 bits.
use Rattle.std.proofs.Common.{ℕ, ◌≡◌, ◌+◌, ◌*◌, ◌^◌, ◌<◌, ◌≤◌, List, [], ◌∷◌, length, refl, ap, ◌∙◌, arith}
use Rattle.std.specs.Prelude.{ℤ, pos, ◌+ℤ◌, ◌-ℤ◌, All, FitsSigned}
use Rattle.std.specs.Int.{w64}
use Rattle.std.specs.List.{fold, sum_by}
use Rattle.std.proofs.lemmas.Int.{ints}
use Rattle.std.proofs.lemmas.List.Sums.{sum_by-cons, sum_by-le}
use Rattle.ssb_schema.specs.Facts.{IsFactWithinLimits}
use Rattle.ssb_schema.specs.declared.fact.Fact.{Fact}
use Rattle.ssb_questions.specs.declared.plan.Measure.{Measure}
use Rattle.ssb_questions.specs.declared.plan.Measure.TheVariants.{PriceTimesDiscount, Revenue, Profit, Quantity}
use Rattle.ssb_questions.specs.declared.plan.Measure.TheVariants.{ExtendedPrice, SupplyCost, Lines}
use Rattle.ssb_answers.specs.Answer.{amount}
use Rattle.ssb_answers.specs.Sums.{gain, loss, total, SumFits}
use Rattle.ssb_base.specs.Limits.{most_lines}
use Rattle.ssb_answers.specs.Totals.{most}

amount_is : (measure : Measure) (fact : Fact) → amount measure fact ≡ pos (gain measure fact) -ℤ pos (loss measure fact)
amount_is PriceTimesDiscount fact = omega (arith, ints)
amount_is Revenue fact = omega (arith, ints)
amount_is Profit fact = refl
amount_is Quantity fact = omega (arith, ints)
amount_is ExtendedPrice fact = omega (arith, ints)
amount_is SupplyCost fact = omega (arith, ints)
amount_is Lines fact = omega (arith, ints)

added : (a b g l : ℕ) (m : ℤ) → m ≡ pos g -ℤ pos l → (pos a -ℤ pos b) +ℤ m ≡ pos (a + g) -ℤ pos (b + l)
added a b g l m e = omega (arith, ints, e)

regroup : (a b g l m n x y : ℕ) → x ≡ g + m → y ≡ l + n
    → pos ((a + g) + m) -ℤ pos ((b + l) + n) ≡ pos (a + x) -ℤ pos (b + y)
regroup a b g l m n x y p q = omega (arith, ints, p, q)

-- the sum over things that each have a fact
pub fold_is : {X : Type 0} (fact : X → Fact) (measure : Measure) (xs : List X) (a b : ℕ)
    → fold (λ sum x. sum +ℤ amount measure (fact x)) (pos a -ℤ pos b) xs
    ≡ pos (a + sum_by (λ x. gain measure (fact x)) xs) -ℤ pos (b + sum_by (λ x. loss measure (fact x)) xs)
fold_is fact measure [] a b = omega (arith, ints)
fold_is {X} fact measure (x ∷ xs) a b =
    ap (λ (z : ℤ). fold (λ sum x. sum +ℤ amount measure (fact x)) z xs)
    (added a b (gain measure (fact x)) (loss measure (fact x)) (amount measure (fact x))
    (amount_is measure (fact x)))
    ∙ fold_is fact measure xs (a + gain measure (fact x)) (b + loss measure (fact x))
    ∙ regroup _ _ _ _ _ _ _ _ (sum_by-cons (λ x. gain measure (fact x)) x xs)
    (sum_by-cons (λ x. loss measure (fact x)) x xs)

-- the same from nothing on
pub plain_zero : (x y : ℕ) → pos (0 + x) -ℤ pos (0 + y) ≡ pos x -ℤ pos y
plain_zero x y = omega (arith, ints)

pub total_is : (measure : Measure) (facts : List Fact)
    → total measure facts ≡ pos (sum_by (gain measure) facts) -ℤ pos (sum_by (loss measure) facts)
total_is measure facts = fold_is (λ fact. fact) measure facts 0 0
    ∙ plain_zero (sum_by (gain measure) facts) (sum_by (loss measure) facts)

gain_most : (measure : Measure) (fact : Fact) → IsFactWithinLimits fact → gain measure fact ≤ most
gain_most PriceTimesDiscount fact h = product fact.price fact.discount h.price h.discount
  where
    product : (price discount : ℕ) → price < 2 ^ 32 → discount ≤ 10 → price * discount ≤ most
    product price discount p d = grind (arith, p, d)
gain_most Revenue fact h = omega (arith, h.revenue)
gain_most Profit fact h = omega (arith, h.revenue)
gain_most Quantity fact h = omega (arith, h.quantity.1)
gain_most ExtendedPrice fact h = omega (arith, h.price)
gain_most SupplyCost fact h = omega (arith, h.cost)
gain_most Lines fact h = omega arith

loss_most : (measure : Measure) (fact : Fact) → IsFactWithinLimits fact → loss measure fact ≤ most
loss_most PriceTimesDiscount fact h = omega arith
loss_most Revenue fact h = omega arith
loss_most Profit fact h = omega (arith, h.cost)
loss_most Quantity fact h = omega arith
loss_most ExtendedPrice fact h = omega arith
loss_most SupplyCost fact h = omega arith
loss_most Lines fact h = omega arith

few_sum : (g : Fact → ℕ) (facts : List Fact) → length facts ≤ most_lines → All (λ fact. g fact ≤ most) facts
    → sum_by g facts < 2 ^ 63
few_sum g facts few each = omega (arith, few, sum_by-le g most facts each)

fits : (gains losses : ℕ) (z : ℤ) → gains < 2 ^ 63 → losses < 2 ^ 63 → z ≡ pos gains -ℤ pos losses → FitsSigned w64 z
fits gains losses z p q e = omega (arith, ints, p, q, e)

pub sum_fits : (measure : Measure) (facts : List Fact) → length facts ≤ most_lines → All IsFactWithinLimits facts
    → SumFits measure facts
sum_fits measure facts few within = grind (arith, few_sum, gain_most, loss_most, total_is, fits)
