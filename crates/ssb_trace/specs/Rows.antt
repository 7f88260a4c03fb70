-- What a `row` record of a trace spells.
use Rattle.std.specs.Prelude.{ℤ, pos, ◌-ℤ◌, ℕ, ◌+◌, ◌^◌, Bool, true, false, List, [], ◌∷◌, map, length, codes, Option}
use Rattle.std.specs.Prelude.{Some, None, option_map, nat_eq, nat_lt, nat_le, ◌==◌, if◌then◌else◌}
use Rattle.std.specs.Option.{option_and_then}
use Rattle.std.specs.Cmp.Lexicographic.{pointwise}
use Rattle.ssb_text.specs.Records.{has_columns}
use Rattle.ssb_schema.specs.Numerals.{number_of}
use Rattle.ssb_text.specs.Spelling.{field}
use Rattle.ssb_questions.specs.Clause.{kind_in}
use Rattle.ssb_questions.specs.Queries.{plan_over}
use Rattle.ssb_questions.specs.Query.{sum_first}
use Rattle.ssb_questions.specs.declared.kind.ConstantKind.{ConstantKind}
use Rattle.ssb_questions.specs.declared.query.Query.{Query}
use Rattle.ssb_questions.specs.declared.value.Value.{Value}
use Rattle.ssb_answers.specs.declared.answer.ResultRow.{ResultRow}
use Rattle.ssb_script.specs.Lines.{constants_from}

-- what each group column of a question holds, in printed order: a number of 32 bits, or a text
abbrev pub group_kinds : Query × List Value → List ConstantKind
group_kinds question = map kind_in (plan_over question.0 question.1).groups

-- the number that 1 to 19 digits spell
abbrev pub amount_of : List ℕ → Option ℕ
amount_of digits = if nat_le (length digits) 19 then number_of digits else None

-- a number with its sign, which fits 64 bits
abbrev pub positive : ℕ → Option ℤ
positive n = if nat_lt n (2 ^ 63) then Some (pos n) else None

abbrev pub negative : ℕ → Option ℤ
negative n = if nat_le n (2 ^ 63) then Some (pos 0 -ℤ pos n) else None

-- the number that an optional minus (byte 45) and digits spell
abbrev pub signed_of : List ℕ → Option ℤ
signed_of [] = None
signed_of (b ∷ bytes) = if b == 45 then option_and_then negative (amount_of bytes) else option_and_then positive
    (amount_of (b ∷ bytes))

-- a question without group columns has one row, whose sum may be NULL
abbrev pub has_no_groups : List ConstantKind → Bool
has_no_groups [] = true
has_no_groups (kind ∷ kinds) = false

abbrev pub null_of : Bool → Option (Option ℤ)
null_of true = Some None
null_of false = None

-- the sum that bytes spell in a row of such group columns
abbrev pub sum_of : List ConstantKind → List ℕ → Option (Option ℤ)
sum_of kinds bytes = if pointwise nat_eq bytes (codes "NULL") then null_of (has_no_groups kinds) else
    option_map Some (signed_of bytes)

-- the row whose sum stands at one place, and whose group columns from another on
abbrev pub row_at : List ConstantKind → ℕ → ℕ → List (List ℕ) → Option ResultRow
row_at kinds sum_place groups_place fields =
    option_and_then (λ sum. option_map (λ groups. record { groups = groups; sum = sum })
    (constants_from groups_place kinds fields)) (sum_of kinds (field fields sum_place))

-- the row of printed columns that a record spells behind its word, for a query and what its group columns hold
abbrev pub row_with : Query → List ConstantKind → List (List ℕ) → Option ResultRow
row_with query kinds fields =
    if has_columns (2 + length kinds) fields
    then (if sum_first query then row_at kinds 1 2 fields else row_at kinds (1 + length kinds) 1 fields)
    else None

-- the row of the question
abbrev pub row_of : Query × List Value → List (List ℕ) → Option ResultRow
row_of question fields = row_with question.0 (group_kinds question) fields
