-- What was taken of a journal's file.
use Rattle.std.specs.Prelude.{◌≡◌, ◌<◌, ◌≤◌, ◌+◌, ℕ, List, [], ◌∷◌, ◌++◌, length, MatchOption}
use Rattle.row_store.specs.History.{CommitRecord}
use Rattle.ssb_journal.specs.Kept.{IsGroupOf}
use Rattle.ship_command.specs.Stream.{HaveCommits}
use Rattle.ship_command.specs.declared.taking.LeftOut.{LeftOut}

-- a group spells so many commits
pub record HasCount (count : ℕ) (group : List ℕ) : Type 0 where
  pub commits : List CommitRecord
  pub spells : IsGroupOf commits group
  pub counted : count ≡ length commits

-- with this group the commits, of which so many come before it, go beyond one
abbrev pub PassesBeyond : ℕ → ℕ → List ℕ → Type 0
PassesBeyond after before group =
    (commits : List CommitRecord) × IsGroupOf commits group × (after < before + length commits)

-- these groups were left out, which end with a commit or before; the next one does not, where it was taken. So many
-- commits come before them
pub record IsLeftOut (past after : ℕ) (old new : List (List ℕ)) (left : LeftOut) : Type 0 where
  pub out : List (List ℕ)
  pub count : ℕ
  pub counted : HaveCommits out count
  pub numbered : left.commits ≡ past + count
  pub within : left.commits ≤ after
  pub next : MatchOption left.next
      ((new ≡ old ++ out) × (left.commits ≡ after))
      (λ group. (new ≡ old ++ (out ++ group.items ∷ [])) × PassesBeyond after left.commits group.items)

-- these were taken, and perhaps more behind them
abbrev pub HaveGrown : List (List ℕ) → List (List ℕ) → Type 0
HaveGrown old new = (more : List (List ℕ)) × (new ≡ old ++ more)

-- the head is all that was taken
abbrev pub IsHeadAlone : List (List ℕ) → Type 0
IsHeadAlone groups = (head : List ℕ) × (groups ≡ head ∷ [])

-- so far these were left out, which end with a commit or before
pub record IsLeavingOut (past after : ℕ) (old new : List (List ℕ)) (commits : ℕ) : Type 0 where
  pub out : List (List ℕ)
  pub count : ℕ
  pub counted : HaveCommits out count
  pub numbered : commits ≡ past + count
  pub within : commits ≤ after
  pub taken : new ≡ old ++ out
