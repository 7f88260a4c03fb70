-- The sums over facts alone, as a scan adds them up: what facts gain and what they lose, each by itself.
use Rattle.std.specs.Prelude.{ℕ, ℤ, pos, ◌≡◌, ◌*◌, ◌^◌, ◌<◌, ◌≤◌, ◌+ℤ◌, ◌-ℤ◌, List, All, length, FitsSigned}
use Rattle.std.specs.List.{fold, sum_by}
use Rattle.std.specs.Int.{w64}
use Rattle.ssb_schema.specs.Facts.{IsFactWithinLimits}
use Rattle.ssb_schema.specs.declared.fact.Fact.{Fact}
use Rattle.ssb_questions.specs.declared.plan.Measure.{Measure}
use Rattle.ssb_questions.specs.declared.plan.Measure.TheVariants.{PriceTimesDiscount, Revenue, Profit, Quantity}
use Rattle.ssb_questions.specs.declared.plan.Measure.TheVariants.{ExtendedPrice, SupplyCost, Lines}
use Rattle.ssb_base.specs.Limits.{most_lines}
use Rattle.ssb_answers.specs.Answer.{amount}

-- an amount is a gain less a loss
abbrev pub gain : Measure → Fact → ℕ
gain PriceTimesDiscount fact = fact.price * fact.discount
gain Revenue fact = fact.revenue
gain Profit fact = fact.revenue
gain Quantity fact = fact.quantity
gain ExtendedPrice fact = fact.price
gain SupplyCost fact = fact.cost
gain Lines fact = 1

abbrev pub loss : Measure → Fact → ℕ
loss PriceTimesDiscount fact = 0
loss Revenue fact = 0
loss Profit fact = fact.cost
loss Quantity fact = 0
loss ExtendedPrice fact = 0
loss SupplyCost fact = 0
loss Lines fact = 0

-- the sum of a measure over facts
abbrev pub total : Measure → List Fact → ℤ
total measure facts = fold (λ sum fact. sum +ℤ amount measure fact) (pos 0) facts

-- gains and losses each fit 63 bits; the sum is their difference, which an i64 can hold
pub record SumFits (measure : Measure) (facts : List Fact) : Type 0 where
  pub gains : sum_by (gain measure) facts < 2 ^ 63
  pub losses : sum_by (loss measure) facts < 2 ^ 63
  pub difference : total measure facts ≡ pos (sum_by (gain measure) facts) -ℤ pos (sum_by (loss measure) facts)
  pub fits : FitsSigned w64 (total measure facts)

-- so it is of every measure, over as many facts as a warehouse may have, each within the ranges of its columns
abbrev pub EverySumFits : Type 0
EverySumFits = (measure : Measure) (facts : List Fact) → length facts ≤ most_lines → All IsFactWithinLimits facts
    → SumFits measure facts
