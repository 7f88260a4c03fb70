-- The calls on a file, the newest first: what they make of it, and what a crash leaves.
use Rattle.std.specs.Prelude.{◌≡◌, ◌⊎◌, ◌+◌, ◌≤◌, ℕ, Bool, true, ◌&&◌, nat_le, List, [], ◌∷◌, ◌++◌, length, take, drop}
use Rattle.std.specs.Prelude.{if◌then◌else◌}
use Rattle.std.proofs.Common.{inl, inr}
use Rattle.std.proofs.Math.Nat.{not-suc-le_self}
use Rattle.journal.specs.Disk.{Torn, Cut}
use Rattle.journal.specs.Groups.{recovered}

-- a call, and whether it succeeded
pub data Call : Type 0 where
  -- these bytes were on the disk
  opened : List ℕ → Call
  wrote : ℕ → List ℕ → Bool → Call
  trimmed : ℕ → Bool → Call
  synced : Bool → Call
  -- what a read stands for was promised: nothing was done
  promised : Call

-- what a read returns
abbrev pub seen_after : List Call → List ℕ
seen_after [] = []
seen_after (opened bytes ∷ calls) = bytes
seen_after (wrote at bytes ok ∷ calls) = if ok then take at (seen_after calls) ++ bytes ++ drop (at + length bytes) (seen_after calls) else seen_after calls
seen_after (trimmed len ok ∷ calls) = if ok then take len (seen_after calls) else seen_after calls
seen_after (synced ok ∷ calls) = seen_after calls
seen_after (promised ∷ calls) = seen_after calls

-- what a crash may leave
abbrev pub left_after : List Call → List ℕ → Type 0
left_after [] c = c ≡ []
left_after (opened bytes ∷ calls) c = c ≡ bytes
left_after (wrote at bytes ok ∷ calls) c = (d : List ℕ) × left_after calls d × Torn at (length bytes) d c
left_after (trimmed len ok ∷ calls) c = (d : List ℕ) × left_after calls d × Cut len d c
left_after (synced ok ∷ calls) c = left_after calls c × (ok ≡ true → c ≡ seen_after calls)
left_after (promised ∷ calls) c = left_after calls c

-- what a crash might have left since the moment t, in the course of a call or between two
abbrev pub left_during : List Call → ℕ → List ℕ → Type 0
left_during [] t c = left_after [] c
left_during (call ∷ calls) t c = left_after (call ∷ calls) c ⊎ ((t ≤ length calls) × left_during calls t c)

abbrev pub failure : Bool → ℕ
failure ok = if ok then 0 else 1

-- how many calls failed
abbrev pub failures : List Call → ℕ
failures [] = 0
failures (opened bytes ∷ calls) = failures calls
failures (wrote at bytes ok ∷ calls) = failure ok + failures calls
failures (trimmed len ok ∷ calls) = failure ok + failures calls
failures (synced ok ∷ calls) = failure ok + failures calls
failures (promised ∷ calls) = failures calls

-- the groups that were promised last; of a file that was just opened there are none
abbrev pub promised_after : List Call → List (List ℕ)
promised_after [] = []
promised_after (opened bytes ∷ calls) = []
promised_after (wrote at bytes ok ∷ calls) = promised_after calls
promised_after (trimmed len ok ∷ calls) = promised_after calls
promised_after (synced ok ∷ calls) = promised_after calls
promised_after (promised ∷ calls) = recovered (seen_after calls)

-- each write began within the file
abbrev pub are_inside : List Call → Bool
are_inside [] = true
are_inside (opened bytes ∷ calls) = true
are_inside (wrote at bytes ok ∷ calls) = nat_le at (length (seen_after calls)) && are_inside calls
are_inside (trimmed len ok ∷ calls) = are_inside calls
are_inside (synced ok ∷ calls) = are_inside calls
are_inside (promised ∷ calls) = are_inside calls

-- whatever a crash leaves after calls that began within the file begins with these groups
abbrev pub Keeps : List Call → List (List ℕ) → Type 0
Keeps calls groups =
    (are_inside calls ≡ true)
    × ((file : List ℕ) → left_after calls file → take (length groups) (recovered file) ≡ groups)

pub counts : (calls : List Call) (t : ℕ) (c : List ℕ) → t ≤ length calls → left_after calls c → left_during calls t c
counts [] t c le now = now
counts (call ∷ calls) t c le now = inl now

pub only : (calls : List Call) (c : List ℕ) → left_during calls (length calls) c → left_after calls c
only [] c now = now
only (call ∷ calls) c (inl now) = now
only (call ∷ calls) c (inr past) = absurd (not-suc-le_self (length calls) past.0)
