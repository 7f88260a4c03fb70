-- What is true of a plan.
use Rattle.std.specs.Prelude.{◌≡◌, ◌⊎◌, ℕ, ◌<◌, Bool, true, false, List, ◌∷◌, length, Option, Some, None, option_map}
use Rattle.std.specs.Prelude.{slice_get}
use Rattle.std.specs.List.{AllByRecursion}
use Rattle.ssb_schema.specs.Columns.{column_kind, query_columns}
use Rattle.ssb_schema.specs.declared.column.Column.{Column}
use Rattle.ssb_schema.specs.declared.kind.Kind.{Kind}
use Rattle.ssb_schema.specs.declared.kind.Kind.TheVariants as takes
use Rattle.ssb_schema.specs.declared.table.Table.{Table}
use Rattle.ssb_schema.specs.declared.table.Table.TheVariants as table
use Rattle.ssb_questions.specs.Clause.{Clause, Is, IsNot, FromTo, QuantityIn, DiscountIn}
use Rattle.ssb_questions.specs.Clauses.{clauses_of}
use Rattle.ssb_questions.specs.Kind.{constant_kinds}
use Rattle.ssb_questions.specs.Members.{Has}
use Rattle.ssb_questions.specs.declared.cond.Cond.{Cond}
use Rattle.ssb_questions.specs.declared.cond.Cond.TheVariants.{TextIs, TextFromTo, TextOneOf, NumberIs, NumberFromTo}
use Rattle.ssb_questions.specs.declared.cond.Cond.TheVariants.{NumberOneOf, TextNoneOf, NumberNoneOf}
use Rattle.ssb_questions.specs.declared.cond.Test.{Test}
use Rattle.ssb_questions.specs.declared.kind.ConstantKind.{ConstantKind}
use Rattle.ssb_questions.specs.declared.kind.ConstantKind.TheVariants as kind
use Rattle.ssb_questions.specs.declared.plan.NumberRange.{NumberRange}
use Rattle.ssb_questions.specs.declared.plan.OrderKey.TheVariants.{Group}
use Rattle.ssb_questions.specs.declared.plan.Plan.{Plan}
use Rattle.ssb_questions.specs.declared.query.Query.{Query}
use Rattle.ssb_questions.specs.declared.value.Value.{Value}
use Rattle.ssb_questions.specs.declared.value.Value.TheVariants as value

-- the order looks at every group column, so that no two groups tie
abbrev pub OrdersAllGroups : Plan → Type 0
OrdersAllGroups plan = (place : ℕ) → place < length plan.groups → Has plan.order (Group place)

-- the plan has group columns
pub record IsGrouped (plan : Plan) : Type 0 where
  pub first : Column
  pub others : List Column
  pub are : plan.groups ≡ first ∷ others

-- whether a column takes texts; else it takes numbers
abbrev pub takes_texts : Kind → Bool
takes_texts takes.Text = true
takes_texts (takes.Number least most) = false

-- whether a condition is one on texts; else it is one on numbers
abbrev pub is_on_texts : Cond → Bool
is_on_texts (TextIs text) = true
is_on_texts (TextFromTo from to) = true
is_on_texts (TextOneOf texts) = true
is_on_texts (NumberIs number) = false
is_on_texts (NumberFromTo from to) = false
is_on_texts (NumberOneOf numbers) = false
is_on_texts (TextNoneOf texts) = true
is_on_texts (NumberNoneOf numbers) = false

-- a test looks at a column of the table, one that queries read, for what the column takes
pub record IsTestOf (t : Table) (test : Test) : Type 0 where
  pub table : test.column.table ≡ t
  pub column : Has query_columns test.column
  pub kind : option_map takes_texts (column_kind test.column) ≡ Some (is_on_texts test.cond)

-- each test looks at a column of its own dimension, and the groups are of columns of the dimensions
pub record IsOverColumns (plan : Plan) : Type 0 where
  pub customers : AllByRecursion (IsTestOf table.Customer) plan.customers
  pub suppliers : AllByRecursion (IsTestOf table.Supplier) plan.suppliers
  pub parts : AllByRecursion (IsTestOf table.Part) plan.parts
  pub dates : AllByRecursion (IsTestOf table.Date) plan.dates
  pub groups : AllByRecursion (Has query_columns) plan.groups

-- the value stands among constants of these kinds, at a place of its kind
abbrev pub StandsAmong : List ConstantKind → List Value → ConstantKind → Value → Type 0
StandsAmong kinds constants k v =
    (place : ℕ) × (slice_get kinds place ≡ Some k) × (slice_get constants place ≡ Some v)

-- a text stands at a place for texts of the column, a number at a place for numbers
abbrev pub IsConstant : List ConstantKind → List Value → Column → Value → Type 0
IsConstant kinds constants column (value.Text text) = StandsAmong kinds constants (kind.Text column) (value.Text text)
IsConstant kinds constants column (value.Number n) = StandsAmong kinds constants kind.Number (value.Number n)

-- a clause looks for the value in the column
abbrev pub LooksFor : Column → Value → Clause → Type 0
LooksFor column wanted (Is own v) = (own ≡ column) × (v ≡ wanted)
LooksFor column wanted (IsNot own v) = (own ≡ column) × (v ≡ wanted)
LooksFor column wanted (FromTo own from to) = (own ≡ column) × ((from ≡ wanted) ⊎ (to ≡ wanted))
LooksFor column wanted _ = ⊥

-- one of the clauses that constants spell looks for the value in the column
abbrev pub IsSpelled : List Value → Column → Value → Type 0
IsSpelled constants column wanted =
    (clause : Clause) × Has (clauses_of constants) clause × LooksFor column wanted clause

-- the value that is looked for in a column stands among constants of these kinds; without kinds, one of the constants
-- spells it
abbrev pub IsGiven : Option (List ConstantKind) → List Value → Column → Value → Type 0
IsGiven (Some kinds) constants column v = IsConstant kinds constants column v
IsGiven None constants column v = IsSpelled constants column v

-- each value that a condition looks for is so
abbrev pub AreValues : (Value → Type 0) → Cond → Type 0
AreValues IsSo (TextIs text) = IsSo (value.Text text)
AreValues IsSo (TextFromTo from to) = IsSo (value.Text from) × IsSo (value.Text to)
AreValues IsSo (TextOneOf texts) = AllByRecursion (λ text. IsSo (value.Text text)) texts
AreValues IsSo (NumberIs number) = IsSo (value.Number number)
AreValues IsSo (NumberFromTo from to) = IsSo (value.Number from) × IsSo (value.Number to)
AreValues IsSo (NumberOneOf numbers) = AllByRecursion (λ number. IsSo (value.Number number)) numbers
AreValues IsSo (TextNoneOf texts) = AllByRecursion (λ text. IsSo (value.Text text)) texts
AreValues IsSo (NumberNoneOf numbers) = AllByRecursion (λ number. IsSo (value.Number number)) numbers

-- what a test looks for is given for its column
abbrev pub IsTestOfConstants : Option (List ConstantKind) → List Value → Test → Type 0
IsTestOfConstants kinds constants test = AreValues (IsGiven kinds constants test.column) test.cond

-- both numbers of a range stand among constants of these kinds; without kinds, one of the constants says the range
abbrev pub IsRangeOfConstants : Option (List ConstantKind) → (NumberRange → Clause) → List Value → Option NumberRange
    → Type 0
IsRangeOfConstants kinds says constants None = Unit {0}
IsRangeOfConstants (Some kinds) says constants (Some range) =
    StandsAmong kinds constants kind.Number (value.Number range.from)
    × StandsAmong kinds constants kind.Number (value.Number range.to)
IsRangeOfConstants None says constants (Some range) = Has (clauses_of constants) (says range)

-- the plan looks for the question's constants alone, each where its place says, or for what clauses of `star` spell
pub record LooksForConstants (query : Query) (constants : List Value) (plan : Plan) : Type 0 where
  pub customers : AllByRecursion (IsTestOfConstants (constant_kinds query) constants) plan.customers
  pub suppliers : AllByRecursion (IsTestOfConstants (constant_kinds query) constants) plan.suppliers
  pub parts : AllByRecursion (IsTestOfConstants (constant_kinds query) constants) plan.parts
  pub dates : AllByRecursion (IsTestOfConstants (constant_kinds query) constants) plan.dates
  pub quantity : IsRangeOfConstants (constant_kinds query) QuantityIn constants plan.quantity
  pub discount : IsRangeOfConstants (constant_kinds query) DiscountIn constants plan.discount
