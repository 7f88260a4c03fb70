-- The codes of a list of values.
use Rattle.std.specs.Prelude.{ℕ, Bool, not, List, [], ◌∷◌, map, filter, unwrap_or}
use Rattle.std.specs.List.{position}
use Rattle.std.specs.Ordering.{eq_by_cmp}
use Rattle.ssb_questions.specs.Value.{value_cmp}
use Rattle.ssb_questions.specs.declared.value.Value.{Value}
use Rattle.ssb_questions.specs.declared.value.Value.TheVariants.{Text, Number}
use Rattle.std.specs.Hash as fed

-- whether two values are the same
abbrev pub is_same : Value → Value → Bool
is_same = eq_by_cmp value_cmp

-- the distinct values, in the order of first sight
unfoldable pub distinct : List Value → List Value
distinct [] = []
distinct (value ∷ values) = value ∷ filter (λ other. not (is_same value other)) (distinct values)

-- the code of a value: its place, counted from 0, among the distinct values
abbrev pub code_in : List Value → Value → ℕ
code_in dictionary value = unwrap_or (position (is_same value) dictionary) 0

-- each value's code
abbrev pub codes_of : List Value → List ℕ
codes_of values = map (code_in (distinct values)) values

-- what a hash reads of a value
abbrev pub hash_input_of : Value → List (List ℕ)
hash_input_of (Text text) = fed.str text
hash_input_of (Number number) = fed.u64 number
