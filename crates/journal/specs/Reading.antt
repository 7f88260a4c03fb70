-- What was read of a file of groups.
use Rattle.std.specs.Prelude.{◌≡◌, ◌≤◌, ℕ, Bool, true, List, [], ◌++◌, length, drop}
use Rattle.journal.specs.Groups.{blocks, recovered}

-- the groups that were read of a file, as contracts see them: the file, as far as it was read, the groups, the
-- bytes that were read behind them, and whether the groups are all
pub record ReadGroups (U : Type 0) : Type 0 where
  pub unread : U
  pub groups : List (List ℕ)
  pub rest : List ℕ
  pub is_done : Bool

-- these are the first groups that a file stands for
abbrev pub HasFirst : List (List ℕ) → List ℕ → Type 0
HasFirst groups file = (more : List (List ℕ)) × (recovered file ≡ groups ++ more)

-- what was read of a file is the blocks of these groups, and the bytes of a buffer from a place on, in which no group
-- is where all was read
pub record AreRead (taken : List ℕ) (Ended : Type 0) (groups : List (List ℕ)) (buffer : List ℕ) (place end : ℕ) (done : Bool)
    : Type 0 where
  pub inside : place ≤ length buffer
  pub bytes : taken ≡ blocks groups ++ drop place buffer
  -- whatever stands behind them, the groups count
  pub count : (rest : List ℕ) → recovered (blocks groups ++ rest) ≡ groups ++ recovered rest
  pub reach : end ≡ length (blocks groups)
  pub none : done ≡ true → recovered (drop place buffer) ≡ []
  pub ended : done ≡ true → Ended
  pub front : done ≡ true → place ≡ 0
