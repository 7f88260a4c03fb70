-- What the plan of a star question means, in the words of the table of its constants.
use Rattle.std.specs.Prelude.{◌≡◌, ◌≢◌, ℕ, ◌≤◌, Bool, true, false, List, ◌∷◌, length, map, filter, IfSome, Some, None}
use Rattle.std.specs.Prelude.{slice_get, ◌↔◌}
use Rattle.std.specs.List.{AllByRecursion, range_with_len}
use Rattle.ssb_schema.specs.declared.column.Column.{Column}
use Rattle.ssb_questions.specs.Clause.{Clause, Sums, GroupsBy, Is, IsNot, FromTo, QuantityIn, DiscountIn, BySum}
use Rattle.ssb_questions.specs.Clauses.{clauses_of}
use Rattle.ssb_questions.specs.Cond.{holds}
use Rattle.ssb_questions.specs.Members.{Has}
use Rattle.ssb_questions.specs.Question.{constants_fault}
use Rattle.ssb_questions.specs.Star.{star_plan_over}
use Rattle.ssb_questions.specs.Text.{text_le}
use Rattle.ssb_questions.specs.declared.cond.Test.{Test}
use Rattle.ssb_questions.specs.declared.plan.NumberRange.{NumberRange}
use Rattle.ssb_questions.specs.declared.plan.OrderKey.{OrderKey}
use Rattle.ssb_questions.specs.declared.plan.OrderKey.TheVariants.{Group, SumDescending}
use Rattle.ssb_questions.specs.declared.plan.Plan.{Plan}
use Rattle.ssb_questions.specs.declared.query.Query.TheVariants.{Star}
use Rattle.ssb_questions.specs.declared.value.Value.{Value}
use Rattle.ssb_questions.specs.declared.value.Value.TheVariants.{Text, Number}

-- what tests look at: the values in the columns of the rows that a line names, and two numbers of the line itself
pub record Tested : Type 0 where
  pub value : Column → Value
  pub quantity : ℕ
  pub discount : ℕ

-- from one value to another, both included: by the bytes of the text, or by number
abbrev pub LiesIn : Value → Value → Value → Type 0
LiesIn (Text from) (Text to) (Text v) = (text_le from v ≡ true) × (text_le v to ≡ true)
LiesIn (Number from) (Number to) (Number v) = (from ≤ v) × (v ≤ to)
LiesIn _ _ _ = ⊥

abbrev pub IsInRange : NumberRange → ℕ → Type 0
IsInRange range n = (range.from ≤ n) × (n ≤ range.to)

-- the clauses let a line pass: of each column with values, one is the line's, each range holds, and no column has a
-- value that a clause excludes
pub record ClausesPass (clauses : List Clause) (line : Tested) : Type 0 where
  pub values : (column : Column) (v : Value) → Has clauses (Is column v) → Has clauses (Is column (line.value column))
  pub ranges : (column : Column) (from to : Value) → Has clauses (FromTo column from to)
      → LiesIn from to (line.value column)
  pub exclusions : (column : Column) (v : Value) → Has clauses (IsNot column v) → line.value column ≢ v
  pub quantity : (range : NumberRange) → Has clauses (QuantityIn range) → IsInRange range line.quantity
  pub discount : (range : NumberRange) → Has clauses (DiscountIn range) → IsInRange range line.discount

-- all tests hold of the values
abbrev pub TestsHold : List Test → (Column → Value) → Type 0
TestsHold tests value = AllByRecursion (λ test. holds test.cond (value test.column) ≡ true) tests

-- the plan lets a line pass
pub record PlanPasses (plan : Plan) (line : Tested) : Type 0 where
  pub customers : TestsHold plan.customers line.value
  pub suppliers : TestsHold plan.suppliers line.value
  pub parts : TestsHold plan.parts line.value
  pub dates : TestsHold plan.dates line.value
  pub quantity : IfSome plan.quantity (λ range. IsInRange range line.quantity)
  pub discount : IfSome plan.discount (λ range. IsInRange range line.discount)

-- the clauses that name a group column
abbrev pub is_group : Clause → Bool
is_group (GroupsBy column) = true
is_group _ = false

-- in ascending order of so many group columns, the first one first
abbrev pub by_columns : ℕ → List OrderKey
by_columns groups = map Group (range_with_len 0 groups)

-- the plan is what the clauses say
pub record MeansClauses (clauses : List Clause) (plan : Plan) : Type 0 where
  -- a line passes exactly where the clauses let it pass
  pub passes : (line : Tested) → PlanPasses plan line ↔ ClausesPass clauses line
  -- the measure is what the first clause sums
  pub measure : slice_get clauses 0 ≡ Some (Sums plan.measure)
  -- the group columns are those that clauses name, in the same order
  pub groups : map GroupsBy plan.groups ≡ filter is_group clauses
  -- rows stand by the sum first if a clause says so, and by the group columns
  pub by_sum : Has clauses BySum → plan.order ≡ SumDescending ∷ by_columns (length plan.groups)
  pub by_groups : (Has clauses BySum → ⊥) → plan.order ≡ by_columns (length plan.groups)

-- the plan of the constants that `star` takes is what their clauses say
abbrev pub StarPlanMeans : Type 0
StarPlanMeans =
    (constants : List Value) → constants_fault Star constants ≡ None
    → MeansClauses (clauses_of constants) (star_plan_over constants)
