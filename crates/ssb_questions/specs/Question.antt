-- Questions: a query with its constants, and why constants are refused.
use Rattle.std.specs.Prelude.{◌+◌, not, nat_eq, List, length, Option, Some, None, option_map, position, Result, Ok, Err}
use Rattle.std.specs.Prelude.{if◌then◌else◌}
use Rattle.std.specs.List.{zip}
use Rattle.ssb_questions.specs.Clauses.{first_bad}
use Rattle.ssb_questions.specs.Kind.{fits, constant_kinds}
use Rattle.ssb_questions.specs.declared.kind.ConstantKind.{ConstantKind}
use Rattle.ssb_questions.specs.declared.query.Query.{Query}
use Rattle.ssb_questions.specs.declared.question.ConstantsFault.{ConstantsFault}
use Rattle.ssb_questions.specs.declared.question.ConstantsFault.TheVariants.{WrongCount, BadConstant}
use Rattle.ssb_questions.specs.declared.question.QuestionError.{QuestionError}
use Rattle.ssb_questions.specs.declared.question.QuestionError.TheVariants.{Refused, OutOfMemory}
use Rattle.ssb_questions.specs.declared.value.Value.{Value}

-- the first fault of constants of these kinds: their number, else the first that does not fit its place, counted from
-- 1; without kinds, the first that may not stand there in a star question
abbrev pub fault_by : Option (List ConstantKind) → Query → List Value → Option ConstantsFault
fault_by (Some kinds) query constants =
    if nat_eq (length constants) (length kinds)
    then option_map (λ place. BadConstant (place + 1)) (position (λ at. not (fits at.0 at.1)) (zip kinds constants))
    else Some (WrongCount query)
fault_by None query constants = option_map (λ place. BadConstant (place + 1)) (first_bad constants)

-- the first fault of a query's constants
abbrev pub constants_fault : Query → List Value → Option ConstantsFault
constants_fault query constants = fault_by (constant_kinds query) query constants

-- the fault for which constants were refused, if they were
abbrev pub fault_of : {X : Type 0} → Result X QuestionError → Option ConstantsFault
fault_of (Ok question) = None
fault_of (Err (Refused fault back)) = Some fault
fault_of (Err (OutOfMemory back)) = None

-- the constants that are handed back
abbrev pub back_of : QuestionError → List Value
back_of (Refused fault back) = back.items
back_of (OutOfMemory back) = back.items
