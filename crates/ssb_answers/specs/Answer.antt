-- What a query answers.
use Rattle.std.specs.Prelude.{ℤ, pos, ◌+ℤ◌, ◌-ℤ◌, ◌*◌, List, [], ◌∷◌, map, filter, Option, None, Some, slice_get}
use Rattle.std.specs.List.{fold}
use Rattle.std.specs.declared.cmp.Ordering.{Ordering}
use Rattle.std.specs.declared.cmp.Ordering.TheVariants.{Less, Equal, Greater}
use Rattle.std.specs.Ordering.{int_cmp, ordering_then, is_eq}
use Rattle.std.specs.Cmp.Lexicographic.{slice_cmp}
use Rattle.ssb_schema.specs.declared.column.Column.{Column}
use Rattle.ssb_questions.specs.Value.{value_cmp}
use Rattle.ssb_base.specs.Base.{Dimensions}
use Rattle.ssb_schema.specs.declared.fact.Fact.{Fact}
use Rattle.ssb_answers.specs.Combination.{Combination, combinations, value_at}
use Rattle.ssb_answers.specs.Ordered.{in_order}
use Rattle.ssb_questions.specs.declared.value.Value.{Value}
use Rattle.ssb_answers.specs.declared.answer.ResultRow.{ResultRow}
use Rattle.ssb_questions.specs.declared.plan.Measure.{Measure}
use Rattle.ssb_questions.specs.declared.plan.Measure.TheVariants.{PriceTimesDiscount, Revenue, Profit, Quantity}
use Rattle.ssb_questions.specs.declared.plan.Measure.TheVariants.{ExtendedPrice, SupplyCost, Lines}
use Rattle.ssb_questions.specs.declared.plan.OrderKey.{OrderKey}
use Rattle.ssb_questions.specs.declared.plan.OrderKey.TheVariants.{Group, SumDescending}
use Rattle.ssb_questions.specs.declared.plan.Plan.{Plan}
use Rattle.ssb_questions.specs.declared.query.Query.{Query}
use Rattle.ssb_questions.specs.Queries.{plan_over}

abbrev pub groups_cmp : List Value → List Value → Ordering
groups_cmp = slice_cmp value_cmp

-- the values of a combination in the plan's group columns
abbrev pub group_of : Plan → Combination → List Value
group_of plan combination = map (λ column. value_at column combination) plan.groups

-- what a line adds
abbrev pub amount : Measure → Fact → ℤ
amount PriceTimesDiscount fact = pos (fact.price * fact.discount)
amount Revenue fact = pos fact.revenue
amount Profit fact = pos fact.revenue -ℤ pos fact.cost
amount Quantity fact = pos fact.quantity
amount ExtendedPrice fact = pos fact.price
amount SupplyCost fact = pos fact.cost
amount Lines fact = pos 1

-- the sum over the combinations, and nothing where there is none
abbrev pub sum_over : Measure → List Combination → Option ℤ
sum_over measure [] = None
sum_over measure (first ∷ others) = Some
    (fold (λ sum combination. sum +ℤ amount measure combination.fact) (pos 0) (first ∷ others))

-- the combinations of one group
abbrev pub in_group : Plan → List Value → List Combination → List Combination
in_group plan groups found = filter (λ combination. is_eq (groups_cmp (group_of plan combination) groups)) found

-- the row of one group
abbrev pub row_of : Plan → List Combination → List Value → ResultRow
row_of plan found groups = record { groups = groups; sum = sum_over plan.measure (in_group plan groups found) }

-- without group columns there is one group, also where nothing was found; else those of what was found
abbrev pub groups_among : List Column → (Combination → List Value) → List Combination → List (List Value)
groups_among [] group found = [] ∷ []
groups_among (column ∷ columns) group found = map group found

-- how two rows stand by one part of the order
abbrev pub optional_cmp : {X : Type 0} → (X → X → Ordering) → Option X → Option X → Ordering
optional_cmp cmp None None = Equal
optional_cmp cmp None (Some y) = Less
optional_cmp cmp (Some x) None = Greater
optional_cmp cmp (Some x) (Some y) = cmp x y

abbrev pub key_cmp : OrderKey → ResultRow → ResultRow → Ordering
key_cmp (Group place) a b = optional_cmp value_cmp (slice_get a.groups place) (slice_get b.groups place)
key_cmp SumDescending a b = optional_cmp int_cmp b.sum a.sum

-- how two rows stand: the first part of the order that tells them apart decides
abbrev pub row_cmp : List OrderKey → ResultRow → ResultRow → Ordering
row_cmp [] a b = Equal
row_cmp (key ∷ keys) a b = ordering_then (key_cmp key a b) (row_cmp keys a b)

-- the rows over what was found: one for each distinct group, in the plan's order
abbrev pub rows_over : Plan → List Combination → List ResultRow
rows_over plan found = in_order (row_cmp plan.order)
    (map (row_of plan found) (groups_among plan.groups (group_of plan) found))

-- the answer by a plan over these lines
abbrev pub answer : Plan → Dimensions → List Fact → List ResultRow
answer plan dimensions facts = rows_over plan (combinations plan dimensions facts)

-- the answer to a question, which contracts see as a query with its constants
abbrev pub answer_of : Query × List Value → Dimensions → List Fact → List ResultRow
answer_of question dimensions facts = answer (plan_over question.0 question.1) dimensions facts
