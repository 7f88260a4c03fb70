-- Which plans of a batch a row passes, as a bit for each plan.
use Rattle.std.specs.Prelude.{ℕ, ◌≡◌, Bool, List, Some, slice_get, if◌then◌else◌}
use Rattle.std.specs.Int.{bit_at}
use Rattle.std.specs.Int.Bits.{bit_and}
use Rattle.ssb_questions.specs.declared.plan.Plan.{Plan}
use Rattle.ssb_answers.specs.RowValues.{customer_value, supplier_value, part_value, date_value, pass}
use Rattle.ssb_answers.specs.Combination.{Combination, passes, is_in_ranges}

-- the most questions of a batch, and of a pass over the columns: a mask has a bit for each
abbrev pub questions_a_pass : ℕ
questions_a_pass = 16

-- bit k is set where plan k passes
abbrev pub IsMask : (Plan → Bool) → List Plan → ℕ → Type 0
IsMask test plans mask =
    (k : ℕ) (plan : Plan) → slice_get plans k ≡ Some plan → bit_at mask k ≡ (if test plan then 1 else 0)

-- masks of a row of each dimension and of the line's own numbers make the mask of the combination
abbrev pub MasksCombine : Type 0
MasksCombine =
    (plans : List Plan) (c : Combination) (numbers customers suppliers parts dates : ℕ)
    → IsMask (λ plan. is_in_ranges plan c.fact) plans numbers
    → IsMask (λ plan. pass plan.customers (λ place. customer_value place c.customer)) plans customers
    → IsMask (λ plan. pass plan.suppliers (λ place. supplier_value place c.supplier)) plans suppliers
    → IsMask (λ plan. pass plan.parts (λ place. part_value place c.part)) plans parts
    → IsMask (λ plan. pass plan.dates (λ place. date_value place c.date)) plans dates
    → IsMask (λ plan. passes plan c) plans
    (bit_and (bit_and (bit_and (bit_and numbers customers) suppliers) parts) dates)
