-- What a statement of several aggregates means: a row for each group, with all of them.
use Rattle.std.specs.Prelude.{ℕ, ◌+◌, ◌*◌, ◌/◌, ℤ, pos, neg_ℤ, ◌*ℤ◌, int_lt, unsigned_abs, Bool, true, false, not}
use Rattle.std.specs.Prelude.{if◌then◌else◌, List, length, map, filter, Option, None, Some, option_map, slice_get}
use Rattle.std.specs.List.{list_all}
use Rattle.std.specs.Ordering.{int_cmp, is_eq, is_ge, is_gt, is_le, is_lt}
use Rattle.std.specs.declared.cmp.Ordering.{Ordering}
use Rattle.ssb_base.specs.Base.{Dimensions}
use Rattle.ssb_schema.specs.declared.fact.Fact.{Fact}
use Rattle.ssb_questions.specs.StarMeaning.{by_columns}
use Rattle.ssb_questions.specs.declared.plan.Measure.{Measure}
use Rattle.ssb_questions.specs.declared.plan.Plan.{Plan}
use Rattle.ssb_questions.specs.declared.value.Value.{Value}
use Rattle.ssb_answers.specs.Answer.{group_of, groups_among, in_group, row_cmp, sum_over}
use Rattle.ssb_answers.specs.Combination.{Combination, combinations}
use Rattle.ssb_answers.specs.Ordered.{in_order}
use Rattle.ssb_sql.specs.declared.piece.Comparison.{Comparison}
use Rattle.ssb_sql.specs.declared.piece.Comparison.TheVariants as comparison
use Rattle.ssb_statements.specs.declared.cell.StatementCell.{StatementCell}
use Rattle.ssb_statements.specs.declared.cell.StatementCell.TheVariants.{Plain, Number, Decimal}

-- what is printed, or tested, of a group: the value of a group column, by its place from 0; a sum; the number of the
-- lines; an average
pub data Item : Type 0 where
  Column : ℕ → Item
  Total : Measure → Item
  Lines : Item
  Average : Measure → Item

-- a size with the sign of a sum
abbrev pub with_sign_of : ℤ → ℕ → ℤ
with_sign_of sum size = if int_lt sum (pos 0) then neg_ℤ (pos size) else pos size

-- a sum by a number of lines, in ten-thousandths; halves are rounded away from 0
abbrev pub quotient : ℤ → ℕ → ℤ
quotient sum lines = with_sign_of sum ((unsigned_abs sum * 20000 + lines) / (2 * lines))

-- there is none over no lines
abbrev pub average : Option ℤ → ℤ → Option ℤ
average None lines = None
average (Some sum) lines = if int_lt (pos 0) lines then Some (quotient sum (unsigned_abs lines)) else None

-- what is printed of a group whose combinations are these; COUNT is 0 over none, where a sum is NULL
abbrev pub cell : List Combination → List Value → Item → StatementCell
cell members group (Column place) = Plain (slice_get group place)
cell members group (Total measure) = Number (sum_over measure members)
cell members group Lines = Number (Some (pos (length members)))
cell members group (Average measure) = Decimal (average (sum_over measure members) (pos (length members)))

-- a test of a group: what is looked at, and how it stands to a number
pub record Test : Type 0 where
  pub item : Item
  pub comparison : Comparison
  pub number : ℤ

-- how a cell stands to a number; NULL stands to none, nor does the value of a column
abbrev pub cell_cmp : StatementCell → ℤ → Option Ordering
cell_cmp (Plain value) number = None
cell_cmp (Number own) number = option_map (λ n. int_cmp n number) own
cell_cmp (Decimal own) number = option_map (λ n. int_cmp n (number *ℤ pos 10000)) own

-- whether a comparison holds of what stands so
abbrev pub holds : Comparison → Option Ordering → Bool
holds how None = false
holds comparison.Equal (Some stands) = is_eq stands
holds comparison.NotEqual (Some stands) = not (is_eq stands)
holds comparison.Less (Some stands) = is_lt stands
holds comparison.LessOrEqual (Some stands) = is_le stands
holds comparison.Greater (Some stands) = is_gt stands
holds comparison.GreaterOrEqual (Some stands) = is_ge stands

abbrev pub passes : Comparison → ℤ → StatementCell → Bool
passes how number cell = holds how (cell_cmp cell number)

abbrev pub passes_test : List Combination → List Value → Test → Bool
passes_test members group test = passes test.comparison test.number (cell members group test.item)

-- whether a group among what was found has a row
abbrev pub is_kept : Plan → List Test → List Combination → List Value → Bool
is_kept plan tests found group = list_all (passes_test (in_group plan group found) group) tests

abbrev pub row : Plan → List Item → List Combination → List Value → List StatementCell
row plan items found group = map (cell (in_group plan group found) group) items

-- how two groups stand: by the group columns, the first one first
abbrev pub group_cmp : Plan → List Value → List Value → Ordering
group_cmp plan a b =
    row_cmp (by_columns (length plan.groups)) (record { groups = a; sum = None }) (record { groups = b; sum = None })

-- the distinct groups of what was found, in the order of the group columns; without these there is one
abbrev pub groups_found : Plan → List Combination → List (List Value)
groups_found plan found = in_order (group_cmp plan) (groups_among plan.groups (group_of plan) found)

-- a row for each of them that is kept, over these lines; the plan's measure and order are not looked at
abbrev pub rows_by_group : Plan → List Item → List Test → Dimensions → List Fact → List (List StatementCell)
rows_by_group plan items tests dimensions facts =
    map (row plan items (combinations plan dimensions facts))
    (filter (is_kept plan tests (combinations plan dimensions facts))
    (groups_found plan (combinations plan dimensions facts)))
