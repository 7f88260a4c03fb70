-- Lists whose elements are numbered from 1.
use Rattle.std.specs.Prelude.{ℕ, zero, suc, Bool, true, false, nat_lt, if◌then◌else◌}
use Rattle.std.specs.Prelude.{List, [], ◌∷◌, Option, Some, None, slice_get}

module _ {A : Type 0} where
  -- so many times the same
  abbrev pub copies : ℕ → A → List A
  copies zero x = []
  copies (suc more) x = x ∷ copies more x

  -- the list with f of the element at this place
  abbrev pub revised : List A → ℕ → (A → A) → List A
  revised [] place f = []
  revised (x ∷ xs) zero f = f x ∷ xs
  revised (x ∷ xs) (suc place) f = x ∷ revised xs place f

  -- the element with this number; 0 is no number
  abbrev pub numbered : List A → ℕ → Option A
  numbered xs zero = None
  numbered xs (suc place) = slice_get xs place

  -- the list with f of the element that has this number
  abbrev pub renewed : List A → ℕ → (A → A) → List A
  renewed xs zero f = xs
  renewed xs (suc place) f = revised xs place f

  abbrev pub is_there : Option A → Bool
  is_there None = false
  is_there (Some x) = true

-- the place of the element with this number among so many
abbrev pub place_within : ℕ → ℕ → Option ℕ
place_within zero count = None
place_within (suc place) count = if nat_lt place count then Some place else None
