-- The stream of a journal's groups.
use Rattle.std.specs.Prelude.{◌≡◌, ◌⊎◌, ◌<◌, ◌≤◌, ℕ, ◌+◌, Bool, true, false, List, [], ◌∷◌, ◌++◌, length, codes, decimal}
use Rattle.std.specs.Prelude.{flat_map, Option}
use Rattle.std.specs.Io.KnownBytes.{Appends}
use Rattle.journal.specs.Groups.{block, blocks}
use Rattle.row_store.specs.History.{CommitRecord}
use Rattle.ssb_journal.specs.Kept.{IsGroupOf}
use Rattle.ssb_journal.specs.Seals.{sealed}
use Rattle.ssb_text.specs.Written.{AppendsPart}

-- the text of a mark: so many commits come before the groups behind it
abbrev pub mark_text : ℕ → List ℕ
mark_text commits = codes "after|" ++ (decimal commits ++ 10 ∷ [])

abbrev pub mark : ℕ → List ℕ
mark commits = sealed (mark_text commits)

-- a group without commits
abbrev pub sign_of_life : List ℕ
sign_of_life = sealed []

-- groups spell commits, so many together
abbrev pub HaveCommits : List (List ℕ) → ℕ → Type 0
HaveCommits [] count = count ≡ 0
HaveCommits (group ∷ groups) count =
    (commits : List CommitRecord) × (rest : ℕ) × IsGroupOf commits group × HaveCommits groups rest
    × (count ≡ length commits + rest)

-- the first of these groups goes beyond a commit, where so many come before it
pub record GoesBeyond (after before : ℕ) (groups : List (List ℕ)) : Type 0 where
  pub first : List ℕ
  pub others : List (List ℕ)
  pub are : groups ≡ first ∷ others
  pub commits : List CommitRecord
  pub spells : IsGroupOf commits first
  pub beyond : after < before + length commits

-- a stream of groups behind a commit: the head, a mark that tells how many commits of the history come before, and the
-- groups behind these, all but those that end with that commit or before. So many commits come before all groups
pub record IsBehind (past after : ℕ) (groups stream : List (List ℕ)) : Type 0 where
  pub head : List ℕ
  pub left_out : List (List ℕ)
  pub sent : List (List ℕ)
  pub are : groups ≡ head ∷ left_out ++ sent
  pub count : ℕ
  pub counted : HaveCommits left_out count
  pub before : ℕ
  pub numbered : before ≡ past + count
  pub within : before ≤ after
  pub next : (before ≡ after) ⊎ GoesBeyond after before sent
  pub stream_is : stream ≡ head ∷ mark before ∷ sent

-- a stream of groups, before which so many commits come: all of them, where there are none, or those behind a commit
abbrev pub IsStream : ℕ → ℕ → List (List ℕ) → List (List ℕ) → Type 0
IsStream past after groups stream =
    ((past ≡ 0) × (after ≡ 0) × (stream ≡ groups)) ⊎ ((0 < after) × IsBehind past after groups stream)

-- what is written: a group, or a sign of life
pub data Piece : Type 0 where
  group : List ℕ → Piece
  alive : Piece

abbrev pub piece_block : Piece → List ℕ
piece_block (group bytes) = block bytes
piece_block alive = block sign_of_life

-- the bytes of pieces, each behind an open gate
abbrev pub text_of : List Piece → List ℕ
text_of pieces = flat_map piece_block pieces

-- the groups among them
abbrev pub groups_of : List Piece → List (List ℕ)
groups_of [] = []
groups_of (group bytes ∷ pieces) = bytes ∷ groups_of pieces
groups_of (alive ∷ pieces) = groups_of pieces

-- no sign of life comes first
abbrev pub begin_with_group : List Piece → Bool
begin_with_group [] = false
begin_with_group (group bytes ∷ pieces) = true
begin_with_group (alive ∷ pieces) = false

-- the bytes of a stream of these groups were written, with signs of life behind the first group
pub record Ships (past after : ℕ) (groups : List (List ℕ)) (old new : Option (List ℕ)) : Type 0 where
  pub stream : List (List ℕ)
  pub is : IsStream past after groups stream
  pub pieces : List Piece
  pub are : groups_of pieces ≡ stream
  pub first : begin_with_group pieces ≡ true
  pub written : Appends old new (text_of pieces)

-- a part of that was written, from its beginning on, of a stream of the first of these groups
pub record ShipsPart (past after : ℕ) (groups : List (List ℕ)) (old new : Option (List ℕ)) : Type 0 where
  pub front : List (List ℕ)
  pub more : List (List ℕ)
  pub taken : groups ≡ front ++ more
  pub stream : List (List ℕ)
  pub is : IsStream past after front stream
  pub pieces : List Piece
  pub are : groups_of pieces ≡ stream
  pub first : begin_with_group pieces ≡ true
  pub written : AppendsPart old new (text_of pieces)

-- the bytes of a stream of these groups, which has some
pub record BeginsStream (past after : ℕ) (groups : List (List ℕ)) (bytes : List ℕ) : Type 0 where
  pub first : List ℕ
  pub others : List (List ℕ)
  pub is : IsStream past after groups (first ∷ others)
  pub are : bytes ≡ blocks (first ∷ others)

-- nothing was written
abbrev pub ShipsNothing : Option (List ℕ) → Option (List ℕ) → Type 0
ShipsNothing old new = Appends old new []
