-- How a column in codes stands for its values.
use Rattle.std.specs.Prelude.{◌≡◌, ℕ, ◌<◌, All, List, map, length, slice_index_or}
use Rattle.ssb_questions.specs.declared.value.Value.{Value}
use Rattle.ssb_questions.specs.declared.value.Value.TheVariants.{Number}
use Rattle.dimension_index.specs.Codes.{distinct}

-- the values that the codes stand for
abbrev pub values_in : List Value → List ℕ → List Value
values_in dictionary codes = map (λ code. slice_index_or dictionary code (Number 0)) codes

-- every code is that of a value, and the dictionary has no other values than those of the rows, in the order of first
-- sight
pub record IsCoded (dictionary : List Value) (codes : List ℕ) : Type 0 where
  pub within : All (λ code. code < length dictionary) codes
  pub seen : dictionary ≡ distinct (values_in dictionary codes)
