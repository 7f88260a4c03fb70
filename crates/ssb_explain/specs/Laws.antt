-- What is true of a question in words.
use Rattle.std.specs.Prelude.{◌≡◌, ◌↔◌, ℕ, ◌<◌, ◌^◌, Bool, true, false, List, None, Some, drop, map, slice_get}
use Rattle.std.specs.List.{AllByRecursion}
use Rattle.ssb_questions.specs.Queries.{plan_over}
use Rattle.ssb_questions.specs.Query.{name_of}
use Rattle.ssb_questions.specs.Question.{constants_fault}
use Rattle.ssb_questions.specs.Star.{star_plan, star_plan_over}
use Rattle.ssb_questions.specs.StarMeaning.{PlanPasses, Tested}
use Rattle.ssb_questions.specs.declared.plan.Plan.{Plan}
use Rattle.ssb_questions.specs.declared.query.Query.{Query}
use Rattle.ssb_questions.specs.declared.query.Query.TheVariants.{Q3_1, Q3_2, Q3_3, Q3_4, Star}
use Rattle.ssb_questions.specs.declared.value.Value.{Value}
use Rattle.ssb_questions.specs.declared.value.Value.TheVariants.{Text, Number}
use Rattle.ssb_explain.specs.Words.{is_spelled_anew, is_star, plan_clauses, request_fields}

-- whether rows are ordered by a year before the sum, which `star` cannot say
abbrev pub is_year_first : Query → Bool
is_year_first Q3_1 = true
is_year_first Q3_2 = true
is_year_first Q3_3 = true
is_year_first Q3_4 = true
is_year_first _ = false

-- the same lines pass, the same is summed in the same groups, and the rows have the same order where it can be said
pub record AsksTheSame (asked : Query) (plan other : Plan) : Type 0 where
  pub passes : (line : Tested) → PlanPasses other line ↔ PlanPasses plan line
  pub measure : other.measure ≡ plan.measure
  pub groups : other.groups ≡ plan.groups
  pub order : is_year_first asked ≡ false → other.order ≡ plan.order

-- the clauses of each of the thirteen, whatever its constants are, ask of `star` what the question asks
abbrev pub ClausesAskTheSame : Type 0
ClausesAskTheSame =
    (asked : Query) (constants : List Value) → is_star asked ≡ false
    → AsksTheSame asked (plan_over asked constants) (star_plan (plan_clauses (plan_over asked constants)))

-- a number has 32 bits, as those of a question have
abbrev pub HasBits : Value → Type 0
HasBits (Text text) = Unit {0}
HasBits (Number number) = number < 2 ^ 32

-- the constants that stand behind the name in the fields of a request
abbrev pub words_of : List (List ℕ) → List Value
words_of fields = map Text (drop 1 fields)

-- where a question is spelled anew, its fields are a request of `star`: `star` takes the words behind its name, and they
-- ask what the question asks
abbrev pub WordsAskTheSame : Type 0
WordsAskTheSame =
    (asked : Query) (constants : List Value) → constants_fault asked constants ≡ None
    → AllByRecursion HasBits constants → is_spelled_anew asked constants ≡ true
    → let fields = request_fields asked constants in
    (slice_get fields 0 ≡ Some (name_of Star)) × (constants_fault Star (words_of fields) ≡ None)
    × AsksTheSame asked (plan_over asked constants) (star_plan_over (words_of fields))
