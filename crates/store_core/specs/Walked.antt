-- What `find` knows half-way.
use Rattle.std.specs.Prelude.{◌≡◌, ◌≢◌, ◌⊎◌, ◌<◌, ◌≤◌, ◌^◌, ℕ, ◌+◌, List, [], length, slice_index, Option, Some, SomeIff}
use Rattle.store_core.specs.Found.{IsBegin, end_of, commits_in}
use Rattle.store_core.specs.Finding.{begins_of, AreJoined}
use Rattle.store_core.specs.declared.finding.FoundStore.{FoundStore}

-- of the segments with these numbers so many were looked at: some are closed, one follows them, and the others have no
-- commits; the next one is looked for where that one ends, if numbers go so far
pub record IsWalked {C : Type 0} (segments : ℕ → Option (List C)) (numbers : List ℕ) (count : ℕ) (told : FoundStore)
    (next : Option ℕ) : Type 0 where
  pub parts : List (List C)
  pub end : List C
  pub joined : AreJoined segments told.after parts
  pub there : segments told.last ≡ Some end
  pub closed : told.closed.items ≡ begins_of told.after parts
  pub last : told.last ≡ end_of told.after parts
  pub next_is : SomeIff next (told.last + length end < 2 ^ 64) (told.last + length end)
  pub seen : (k : ℕ) → k < count → told.after < slice_index numbers k
      → IsBegin told.after parts (slice_index numbers k) ⊎ (commits_in segments (slice_index numbers k) ≡ [])
  pub open_end : 0 < length end → (k : ℕ) → k < count → slice_index numbers k ≢ told.last + length end
  pub low : (k : ℕ) → count ≤ k → k < length numbers → told.after < slice_index numbers k
      → told.last < slice_index numbers k
