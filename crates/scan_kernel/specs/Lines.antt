-- Counts and sums by group number, over the lines.
use Rattle.std.specs.Prelude.{ℕ, pos, ◌≡◌, ◌*◌, ◌-ℤ◌, ◌&&◌, nat_eq, Bool, All, List, length, filter}
use Rattle.std.specs.List.{sum_by}
use Rattle.ssb_base.specs.Base.{Dimensions, Tables, IsSound, IsKnown}
use Rattle.ssb_schema.specs.Facts.{facts_of}
use Rattle.ssb_schema.specs.declared.fact.Fact.{Fact}
use Rattle.ssb_schema.specs.declared.line.LineFields.{LineFields}
use Rattle.ssb_questions.specs.declared.plan.Measure.TheVariants.{PriceTimesDiscount, Revenue, Profit, Quantity}
use Rattle.ssb_questions.specs.declared.plan.Measure.TheVariants.{ExtendedPrice, SupplyCost, Lines}
use Rattle.ssb_questions.specs.declared.plan.Plan.{Plan}
use Rattle.ssb_answers.specs.Combination.{Combination, combinations}
use Rattle.scan_kernel.specs.Combined.{combine, passes_line}
use Rattle.scan_kernel.specs.Dense.{numbered, total}

-- the lines that pass and have the number
abbrev pub takes : Plan → Combination → Dimensions → (Combination → ℕ) → ℕ → Fact → Bool
takes plan blank dimensions number g fact =
    passes_line plan blank dimensions fact && nat_eq (number (combine blank dimensions fact)) g

abbrev pub price_times_discount : Fact → ℕ
price_times_discount fact = fact.price * fact.discount

abbrev pub price : Fact → ℕ
price fact = fact.price

abbrev pub revenue : Fact → ℕ
revenue fact = fact.revenue

abbrev pub cost : Fact → ℕ
cost fact = fact.cost

abbrev pub quantity : Fact → ℕ
quantity fact = fact.quantity

-- these combinations are those of these lines: so many, with these sums
pub record AreOfLines (found : List Combination) (facts : List Fact) : Type 0 where
  pub count : length found ≡ length facts
  pub discounts : total PriceTimesDiscount found ≡ pos (sum_by price_times_discount facts)
  pub revenues : total Revenue found ≡ pos (sum_by revenue facts)
  pub profits : total Profit found ≡ pos (sum_by revenue facts) -ℤ pos (sum_by cost facts)
  pub quantities : total Quantity found ≡ pos (sum_by quantity facts)
  pub prices : total ExtendedPrice found ≡ pos (sum_by price facts)
  pub costs : total SupplyCost found ≡ pos (sum_by cost facts)
  pub lines : total Lines found ≡ pos (length facts)

abbrev pub GroupsAreOfLines : Type 0
GroupsAreOfLines =
    (blank : Combination) (plan : Plan) (base : Tables) (lines : List LineFields) (number : Combination → ℕ) (g : ℕ)
    → IsSound base → All (IsKnown base.dimensions) lines
    → AreOfLines (numbered number g (combinations plan base.dimensions (facts_of lines)))
    (filter (takes plan blank base.dimensions number g) (facts_of lines))
