-- Dense numbers of codes.
use Rattle.std.specs.Prelude.{Some, None, ℕ, ◌*◌, slice_get, ◌≡◌, ◌≢◌, ◌<◌, List, length, slice_index, Option}
use Rattle.std.specs.Int.{bit_at}
use Rattle.scan_kernel.specs.Places.{mask_in}
use Rattle.ssb_questions.specs.declared.value.Value.{Value}
use Rattle.dimension_index.specs.Codes.{distinct, codes_of}
use Rattle.scan_kernel.specs.Groups.{AreApart, code_in}

-- a code has a number where it stands in the list of codes at that number, and nowhere else
pub record AreNumbered (numbers kept : List ℕ) : Type 0 where
  pub there : (code : ℕ) → code < length numbers → slice_index numbers code ≢ 4294967295
      → (slice_index numbers code < length kept) × (slice_index kept (slice_index numbers code) ≡ code)
  pub back : (number : ℕ) → number < length kept
      → (slice_index kept number < length numbers) × (slice_index numbers (slice_index kept number) ≡ number)

-- some row has the code
pub record IsUsed (codes : List ℕ) (code : ℕ) : Type 0 where
  pub row : ℕ
  pub there : row < length codes
  pub own : slice_index codes row ≡ code

-- the code is that of a row that question k takes
pub record IsTaken (codes : List ℕ) (masks : Option (List ℕ)) (k code : ℕ) : Type 0 where
  pub row : ℕ
  pub there : row < length codes
  pub own : slice_index codes row ≡ code
  pub taken : bit_at (mask_in masks row) k ≡ 1

-- the row at the position has a mask, where rows have masks
abbrev pub HasMasks : Option (List ℕ) → ℕ → Type 0
HasMasks None position = Unit {0}
HasMasks (Some masks) position = position < length masks

-- the value is that of a row that question k takes
pub record IsTakenValue (rows : List Value) (masks : Option (List ℕ)) (k : ℕ) (value : Value) : Type 0 where
  pub row : ℕ
  pub own : slice_get rows row ≡ Some value
  pub taken : bit_at (mask_in masks row) k ≡ 1

-- a group column made ready for a question: the values of the rows that it takes, by number, and what each code adds to
-- the number of a group
pub record IsPreparedColumn (rows : List Value) (masks : Option (List ℕ)) (k : ℕ) (step : ℕ) (values : List Value)
    (parts : List ℕ) : Type 0 where
  pub apart : AreApart values
  pub len : length parts ≡ length (distinct rows)
  pub adds : (p : ℕ) (value : Value) → slice_get rows p ≡ Some value → bit_at (mask_in masks p) k ≡ 1
      → (slice_get values (code_in values value) ≡ Some value)
      × (slice_index parts (slice_index (codes_of rows) p) ≡ code_in values value * step)
  pub only : (number : ℕ) (value : Value) → slice_get values number ≡ Some value → IsTakenValue rows masks k value
