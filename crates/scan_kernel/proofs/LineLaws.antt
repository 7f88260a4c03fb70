-- Counts and sums of combinations are those of their lines.
use Rattle.std.proofs.Common.{ℕ, ◌≡◌, ◌+◌, ◌&&◌, List, [], ◌∷◌, length, map, Bool, sym, refl, ap}
use Rattle.std.proofs.Common.{◌∙◌, subst, arith}
use Rattle.std.specs.Prelude.{ℤ, pos, ◌+ℤ◌, ◌-ℤ◌, nat_eq, filter}
use Rattle.std.specs.List.{fold, AllByRecursion, sum_by}
use Rattle.std.proofs.lemmas.Int.{ints}
use Rattle.std.proofs.lemmas.List.{length-map}
use Rattle.std.proofs.lemmas.List.Sums.{sum_by-cons}
use Rattle.ssb_base.specs.Base.{Dimensions, Tables, IsSound, IsKnown}
use Rattle.ssb_schema.specs.Facts.{facts_of}
use Rattle.ssb_schema.specs.declared.fact.Fact.{Fact}
use Rattle.ssb_schema.specs.declared.line.LineFields.{LineFields}
use Rattle.ssb_questions.specs.declared.plan.Measure.{Measure}
use Rattle.ssb_questions.specs.declared.plan.Measure.TheVariants.{PriceTimesDiscount, Revenue, Profit, Quantity}
use Rattle.ssb_questions.specs.declared.plan.Measure.TheVariants.{ExtendedPrice, SupplyCost, Lines}
use Rattle.ssb_questions.specs.declared.plan.Plan.{Plan}
use Rattle.ssb_answers.specs.Combination.{Combination, combinations}
use Rattle.ssb_answers.specs.Answer.{amount}
use Rattle.scan_kernel.specs.Combined.{combine, passes_line}
use Rattle.scan_kernel.specs.Dense.{numbered}
use Rattle.scan_kernel.specs.Lines.{takes, price_times_discount, price, revenue, cost, quantity, AreOfLines}
use Rattle.scan_kernel.proofs.CombinedLaws.{combines_each_line, filter_mapped}

pub filter_both : {X : Type 0} (p q : X → Bool) (xs : List X) → filter q (filter p xs) ≡ filter (λ x. p x && q x) xs
filter_both p q [] = grind arith
filter_both p q (x ∷ xs) = grind (arith, filter_both p q xs)

total_of_facts : (measure : Measure) (blank : Combination) (dimensions : Dimensions) (start : ℤ) (facts : List Fact)
    → fold (λ sum combination. sum +ℤ amount measure combination.fact) start
    (map (combine blank dimensions) facts) ≡ fold (λ sum fact. sum +ℤ amount measure fact) start facts
total_of_facts measure blank dimensions start [] = refl
total_of_facts measure blank dimensions start (fact ∷ facts) =
    total_of_facts measure blank dimensions (start +ℤ amount measure fact) facts

next_sum : (start more : ℕ) → pos start +ℤ pos more ≡ pos (start + more)
next_sum start more = omega (arith, ints)

sum_of_amounts : (weight : Fact → ℕ) (start : ℕ) (facts : List Fact)
    → fold (λ sum fact. sum +ℤ pos (weight fact)) (pos start) facts ≡ pos
    (fold (λ sum fact. sum + weight fact) start facts)
sum_of_amounts weight start [] = grind arith
sum_of_amounts weight start (fact ∷ facts) = grind (arith, next_sum, sum_of_amounts weight (start + weight fact) facts)

next_difference : (plus minus more less : ℕ) → (pos plus -ℤ pos minus) +ℤ (pos more -ℤ pos less) ≡ pos (plus + more) -ℤ
    pos (minus + less)
next_difference plus minus more less = omega (arith, ints)

sum_of_differences : (up down : Fact → ℕ) (plus minus : ℕ) (facts : List Fact)
    → fold (λ sum fact. sum +ℤ (pos (up fact) -ℤ pos (down fact))) (pos plus -ℤ pos minus) facts ≡ pos
    (fold (λ sum fact. sum + up fact) plus facts) -ℤ pos (fold (λ sum fact. sum + down fact) minus facts)
sum_of_differences up down plus minus [] = grind arith
sum_of_differences up down plus minus (fact ∷ facts) = grind (arith, next_difference, sum_of_differences up down (plus + up fact) (minus + down fact) facts)

pub sum_ones : {A : Type 0} (xs : List A) → sum_by (λ (x : A). 1) xs ≡ length xs
sum_ones [] = refl
sum_ones {A} (x ∷ xs) = sum_by-cons (λ (y : A). 1) x xs ∙ ap (λ (n : ℕ). 1 + n) (sum_ones xs) ∙ omega arith

of_lines : (blank : Combination) (dimensions : Dimensions) (facts : List Fact)
    → AreOfLines (map (combine blank dimensions) facts) facts
of_lines blank dimensions facts = record {
  count = length-map facts (combine blank dimensions);
  discounts = total_of_facts PriceTimesDiscount blank dimensions (pos 0) facts
      ∙ sum_of_amounts price_times_discount 0 facts;
  revenues = total_of_facts Revenue blank dimensions (pos 0) facts ∙ sum_of_amounts revenue 0 facts;
  profits = total_of_facts Profit blank dimensions (pos 0) facts ∙ sum_of_differences revenue cost 0 0 facts;
  quantities = total_of_facts Quantity blank dimensions (pos 0) facts ∙ sum_of_amounts quantity 0 facts;
  prices = total_of_facts ExtendedPrice blank dimensions (pos 0) facts ∙ sum_of_amounts price 0 facts;
  costs = total_of_facts SupplyCost blank dimensions (pos 0) facts ∙ sum_of_amounts cost 0 facts;
  lines = total_of_facts Lines blank dimensions (pos 0) facts ∙ sum_of_amounts (λ fact. 1) 0 facts
      ∙ ap pos (sum_ones facts);
}

pub groups_are_of_lines : (blank : Combination) (plan : Plan) (base : Tables) (lines : List LineFields)
    (number : Combination → ℕ) (g : ℕ) → IsSound base → AllByRecursion (IsKnown base.dimensions) lines
    → AreOfLines (numbered number g (combinations plan base.dimensions (facts_of lines)))
    (filter (takes plan blank base.dimensions number g) (facts_of lines))
groups_are_of_lines blank plan base lines number g sound known =
    let d = base.dimensions in
    let taken = filter (takes plan blank d number g) (facts_of lines) in
    let are : numbered number g (combinations plan d (facts_of lines)) ≡ map (combine blank d) taken =
    ap (numbered number g) (combines_each_line blank plan base lines sound known)
    ∙ filter_mapped (λ c. nat_eq (number c) g) (combine blank d) (filter (passes_line plan blank d) (facts_of lines))
    ∙ ap (map (combine blank d)) (filter_both (passes_line plan blank d)
    (λ fact. nat_eq (number (combine blank d fact)) g) (facts_of lines)) in
    subst (λ (found : List Combination). AreOfLines found taken) (sym are) (of_lines blank d taken)
