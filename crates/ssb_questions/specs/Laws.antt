-- What is true of the constants that `star` takes.
use Rattle.std.specs.Prelude.{◌≡◌, ℕ, ◌<◌, ◌≤◌, ◌^◌, ◌++◌, true, List, [], length, take, map, codes, decimal}
use Rattle.std.specs.Prelude.{None, Some}
use Rattle.std.specs.Prelude.{slice_get}
use Rattle.std.specs.List.{AllByRecursion}
use Rattle.ssb_schema.specs.Columns.{column_name, is_plain, query_columns}
use Rattle.ssb_schema.specs.declared.column.Column.{Column}
use Rattle.ssb_questions.specs.Clause.{Clause, Sums, GroupsBy, Is, IsNot, FromTo, QuantityIn, DiscountIn, BySum}
use Rattle.ssb_questions.specs.Clause.{kind_in, measure_name, most_in, parted}
use Rattle.ssb_questions.specs.Clauses.{may_stand_at, subject}
use Rattle.ssb_questions.specs.Kind.{fits}
use Rattle.ssb_questions.specs.Members.{Has}
use Rattle.ssb_questions.specs.Question.{constants_fault}
use Rattle.ssb_questions.specs.Star.{star_plan, star_plan_over}
use Rattle.ssb_questions.specs.declared.kind.ConstantKind.TheVariants as kind
use Rattle.ssb_questions.specs.declared.plan.NumberRange.{NumberRange}
use Rattle.ssb_questions.specs.declared.query.Query.TheVariants.{Star}
use Rattle.ssb_questions.specs.declared.value.Value.{Value}
use Rattle.ssb_questions.specs.declared.value.Value.TheVariants.{Text, Number}

-- a text that a table file can hold as it is
abbrev pub IsPlainClause : Value → Type 0
IsPlainClause v = (bytes : List ℕ) × (v ≡ Text bytes) × (is_plain bytes ≡ true)

abbrev pub ClausesArePlain : Type 0
ClausesArePlain =
    (constants : List Value) → constants_fault Star constants ≡ None → AllByRecursion IsPlainClause constants

-- the text of each clause
abbrev pub value_text : Value → List ℕ
value_text (Text bytes) = bytes
value_text (Number n) = decimal n

abbrev pub dotted : List ℕ → List ℕ → List ℕ
dotted from to = from ++ (codes ".." ++ to)

abbrev pub named : List ℕ → List ℕ → List ℕ
named name bytes = name ++ (codes "=" ++ bytes)

abbrev pub unlike : List ℕ → List ℕ → List ℕ
unlike name bytes = name ++ (codes "!=" ++ bytes)

abbrev pub range_text : NumberRange → List ℕ
range_text range = dotted (decimal range.from) (decimal range.to)

abbrev pub clause_text : Clause → List ℕ
clause_text (Sums m) = measure_name m
clause_text (GroupsBy column) = column_name column
clause_text (Is column v) = named (column_name column) (value_text v)
clause_text (IsNot column v) = unlike (column_name column) (value_text v)
clause_text (FromTo column from to) = named (column_name column) (dotted (value_text from) (value_text to))
clause_text (QuantityIn range) = named (codes "LO_QUANTITY") (range_text range)
clause_text (DiscountIn range) = named (codes "LO_DISCOUNT") (range_text range)
clause_text BySum = codes "ORDER=SUM"

-- a value that the column could hold
abbrev pub IsValueOf : Column → Value → Type 0
IsValueOf column (Text bytes) = fits (kind_in column) (Text bytes) ≡ true
IsValueOf column (Number n) = (kind_in column ≡ kind.Number) × (n ≤ most_in column) × (n < 2 ^ 64)

-- a text in which `..` stands nowhere; one behind which it stands, and not before
abbrev pub IsAlone : Value → Type 0
IsAlone (Text bytes) = parted (codes "..") bytes ≡ None
IsAlone (Number n) = Unit {0}

abbrev pub IsFirst : Value → Type 0
IsFirst (Text bytes) = parted (codes "..") (dotted bytes []) ≡ Some (bytes, [])
IsFirst (Number n) = Unit {0}

abbrev pub IsRange : NumberRange → Type 0
IsRange range = (range.from < 2 ^ 32) × (range.to < 2 ^ 32)

-- a clause within the bounds: of a column that queries read, for values that it could hold and a constant can part
abbrev pub IsWithinBounds : Clause → Type 0
IsWithinBounds (Sums m) = Unit {0}
IsWithinBounds (GroupsBy column) = Has query_columns column
IsWithinBounds (Is column v) = Has query_columns column × IsValueOf column v × IsAlone v
IsWithinBounds (IsNot column v) = Has query_columns column × IsValueOf column v × IsAlone v
IsWithinBounds (FromTo column from to) =
    Has query_columns column × IsValueOf column from × IsValueOf column to × IsFirst from
IsWithinBounds (QuantityIn range) = IsRange range
IsWithinBounds (DiscountIn range) = IsRange range
IsWithinBounds BySum = Unit {0}

-- 1 to 64 clauses, each at a place where it may stand
pub record StandInOrder (clauses : List Clause) : Type 0 where
  pub some : 1 ≤ length clauses
  pub few : length clauses ≤ 64
  pub each : (place : ℕ) (clause : Clause) → slice_get clauses place ≡ Some clause
      → may_stand_at place (map subject (take place clauses)) (Some (subject clause)) ≡ true

-- the constants that spell clauses
abbrev pub spelling : List Clause → List Value
spelling clauses = map (λ clause. Text (clause_text clause)) clauses

-- `star` takes the constants that spell such clauses, and their plan is that of the clauses
abbrev pub ClausesAreSpelled : Type 0
ClausesAreSpelled =
    (clauses : List Clause) → AllByRecursion IsWithinBounds clauses → StandInOrder clauses
    → (constants_fault Star (spelling clauses) ≡ None) × (star_plan_over (spelling clauses) ≡ star_plan clauses)
