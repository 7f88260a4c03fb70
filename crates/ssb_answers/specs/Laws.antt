-- What the subject says of an answer, as laws over the definitions.
use Rattle.std.specs.Prelude.{◌≡◌, ◌≢◌, List, [], ◌∷◌, ◌++◌, IsPermutation}
use Rattle.std.specs.List.{AllByRecursion}
use Rattle.std.specs.List.Sorted.{IsStrictlySortedBy}
use Rattle.ssb_answers.specs.declared.answer.ResultRow.{ResultRow}
use Rattle.ssb_questions.specs.declared.plan.Plan.{Plan}
use Rattle.ssb_questions.specs.declared.query.Query.{Query}
use Rattle.ssb_questions.specs.declared.value.Value.{Value}
use Rattle.ssb_questions.specs.Members.{Has}
use Rattle.ssb_base.specs.Base.{Dimensions}
use Rattle.ssb_schema.specs.declared.fact.Fact.{Fact}
use Rattle.ssb_answers.specs.Combination.{Combination, combinations}
use Rattle.ssb_answers.specs.Answer.{sum_over, in_group, group_of, row_of, row_cmp, rows_over, answer, answer_of}
use Rattle.ssb_questions.specs.Plan.{OrdersAllGroups, IsGrouped}

-- one row for each group among what was found, with its sum, strictly in the plan's order
pub record ListsGroups (plan : Plan) (found : List Combination) (rows : List ResultRow) : Type 0 where
  pub of_groups : (row : ResultRow) → Has rows row → (c : Combination) × Has found c
      × (row ≡ row_of plan found (group_of plan c))
  pub each_group : (c : Combination) → Has found c → Has rows (row_of plan found (group_of plan c))
  pub ordered : IsStrictlySortedBy (row_cmp plan.order) rows

-- the rows over what was found list its groups, and no other rows do
abbrev pub RowsListGroups : Type 0
RowsListGroups =
    (plan : Plan) (found : List Combination) → OrdersAllGroups plan → IsGrouped plan
    → ListsGroups plan found (rows_over plan found)
    × ((rows : List ResultRow) → ListsGroups plan found rows → rows ≡ rows_over plan found)

-- no two of the rows are of one group
abbrev pub HaveDistinctGroups : List ResultRow → Type 0
HaveDistinctGroups [] = Unit {0}
HaveDistinctGroups (row ∷ rows) = AllByRecursion (λ other. row.groups ≢ other.groups) rows × HaveDistinctGroups rows

abbrev pub RowsHaveDistinctGroups : Type 0
RowsHaveDistinctGroups = (plan : Plan) (found : List Combination) → HaveDistinctGroups (rows_over plan found)

-- the sum of each row is the sum over the combinations of its group
abbrev pub RowsHaveTheirSums : Type 0
RowsHaveTheirSums = (plan : Plan) (found : List Combination) (row : ResultRow) → Has (rows_over plan found) row
    → row.sum ≡ sum_over plan.measure (in_group plan row.groups found)

-- without group columns there is one row, with the sum over all that was found
abbrev pub TotalIsOneRow : Type 0
TotalIsOneRow = (plan : Plan) (found : List Combination) → plan.groups ≡ []
    → rows_over plan found ≡ record { groups = []; sum = sum_over plan.measure found } ∷ []

-- a rearrangement of the lines has the same answer
abbrev pub AnswersIgnoreOrder : Type 0
AnswersIgnoreOrder =
    (plan : Plan) (dimensions : Dimensions) (facts other : List Fact) → OrdersAllGroups plan → IsPermutation facts other
    → answer plan dimensions facts ≡ answer plan dimensions other

-- so has a rearrangement to each question
abbrev pub QuestionsIgnoreOrder : Type 0
QuestionsIgnoreOrder =
    (question : Query × List Value) (dimensions : Dimensions) (facts other : List Fact) → IsPermutation facts other
    → answer_of question dimensions facts ≡ answer_of question dimensions other

-- the combinations over lines in two parts are those over the one and then those over the other
abbrev pub CombinationsAppend : Type 0
CombinationsAppend =
    (plan : Plan) (dimensions : Dimensions) (facts more : List Fact)
    → combinations plan dimensions (facts ++ more) ≡ combinations plan dimensions facts
    ++ combinations plan dimensions more
