-- A file of groups behind gates, and what it stands for.
use Rattle.std.specs.Prelude.{◌≡◌, ◌≢◌, ◌⊎◌, ◌≤◌, ℕ, zero, suc, ◌+◌, ◌-◌, ◌*◌, ◌/◌, ◌%◌, Bool, ◌&&◌, nat_eq, nat_le}
use Rattle.std.specs.Prelude.{List, [], ◌∷◌, ◌++◌, length, take, drop, map, if◌then◌else◌, Option, Some, None, Vec}
use Rattle.std.specs.List.{starts_with}
use Rattle.std.specs.declared.alloc.Global.{Global}
use Rattle.journal.specs.Disk.{Only}
use Rattle.journal.specs.declared.gated.GatedFile.{GatedFile}

-- the last k decimal digits of a number, the highest first
unfoldable pub digits : ℕ → ℕ → List ℕ
digits zero n = []
digits (suc k) n = digits k (n / 10) ++ (48 + n % 10) ∷ []

-- the number that digits spell, behind those that spell n
unfoldable pub number_from : ℕ → List ℕ → ℕ
number_from n [] = n
number_from n (d ∷ ds) = number_from (10 * n + (d - 48)) ds

-- a head behind its gate: " 000000000000005\n"
unfoldable pub head : ℕ → List ℕ
head len = 32 ∷ digits 15 len ++ 10 ∷ []

-- a group behind an open gate: "1 000000000000005\nhello"
unfoldable pub block : List ℕ → List ℕ
block group = 49 ∷ head (length group) ++ group

-- the length that the first head of a file tells
unfoldable pub told : List ℕ → ℕ
told file = number_from 0 (take 15 (drop 2 file))

-- a file begins with an open gate, a head and as many bytes as it tells
unfoldable pub is_whole : List ℕ → Bool
is_whole file = starts_with nat_eq file (49 ∷ head (told file)) && nat_le (18 + told file) (length file)

-- the groups up to the first that is closed or cut short, of at most n
unfoldable pub recovered_in : ℕ → List ℕ → List (List ℕ)
recovered_in zero file = []
recovered_in (suc n) file = if is_whole file then take (told file) (drop 18 file) ∷ recovered_in n (drop (18 + told file) file) else []

-- the groups up to the first that is closed or cut short
unfoldable pub recovered : List ℕ → List (List ℕ)
recovered file = recovered_in (length file) file

-- the length of a file's first group, if it is whole
unfoldable pub whole_length : List ℕ → Option ℕ
whole_length file = if is_whole file then Some (told file) else None

-- what an append writes behind the gate of a group: its head, the group, and the next closed gate
abbrev pub behind_gate : List ℕ → List ℕ
behind_gate group = head (length group) ++ group ++ 48 ∷ []

abbrev pub blocks : List (List ℕ) → List ℕ
blocks [] = []
blocks (group ∷ groups) = block group ++ blocks groups

-- groups behind open gates, and then a closed gate
abbrev pub at_rest : List (List ℕ) → List ℕ
at_rest groups = blocks groups ++ 48 ∷ []

-- the bytes of each
abbrev pub lists : List (Vec ℕ Global) → List (List ℕ)
lists groups = map (λ group. group.items) groups

-- the file begins with this group, behind an open gate, and it counts whatever stands behind it
pub record IsFirst (file group : List ℕ) : Type 0 where
  pub long : 18 + length group ≤ length file
  pub bytes : file ≡ block group ++ drop (18 + length group) file
  pub counts : (rest : List ℕ) → recovered (block group ++ rest) ≡ group ∷ recovered rest

-- the file is whole groups and a closed gate, all of it on the disk
pub record IsSettled {D : Type 0} (seen : D → List ℕ) (may_leave : D → List ℕ → Type 0) (gated : GatedFile D) : Type 0 where
  pub file : seen gated.disk ≡ at_rest (recovered (seen gated.disk))
  pub size : gated.size ≡ length (blocks (recovered (seen gated.disk)))
  pub durable : Only (seen gated.disk) (may_leave gated.disk)

-- the file stands for the groups, with one more or without it
abbrev pub IsBeforeOrAfter : List (List ℕ) → List ℕ → List ℕ → Type 0
IsBeforeOrAfter groups group file = (recovered file ≡ groups) ⊎ (recovered file ≡ groups ++ group ∷ [])

-- what stands behind the groups of a file: a closed gate and nothing else, where no crash has torn it
abbrev pub behind : List ℕ → List ℕ
behind file = drop (length (blocks (recovered file))) file

-- the bytes that a crash has torn of a file: those behind its groups, and none where a closed gate alone stands there
pub record AreTorn (file torn : List ℕ) : Type 0 where
  pub none : behind file ≡ 48 ∷ [] → torn ≡ []
  pub all : behind file ≢ 48 ∷ [] → torn ≡ behind file

-- what a crash leaves of a file whose end is being mended: a beginning of it, or its groups and at most one byte
abbrev pub IsMending : List ℕ → List ℕ → Type 0
IsMending old file =
    (file ≡ take (length file) old)
    ⊎ ((rest : List ℕ) × (file ≡ blocks (recovered old) ++ rest) × (length rest ≤ 1))

-- what a crash leaves while a group is appended: the groups before it, and any gate with what stands behind a new
-- group's, or a closed gate with any bytes, no more than that
abbrev pub IsAppending : List (List ℕ) → List ℕ → List ℕ → Type 0
IsAppending groups group file =
    (gate : ℕ) × (rest : List ℕ) × (file ≡ blocks groups ++ gate ∷ rest)
    × ((rest ≡ behind_gate group) ⊎ ((gate ≡ 48) × (length rest ≤ length (behind_gate group))))
