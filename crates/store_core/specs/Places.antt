-- Names in a folder, the files under them, and what a crash leaves there.
use Rattle.std.specs.Prelude.{◌≡◌, ◌⊎◌, ◌≤◌, ℕ, Bool, true, List, [], ◌∷◌, length, take, Option, Some, None}

-- what stands under a name as it reads, and what has stood there since the names were synced last
pub record Place (A : Type 0) : Type 0 where
  pub now : Option A
  pub before : List (Option A)

-- it stands there whatever crashes
abbrev pub sure : {A : Type 0} → Option A → Place A
sure file = record { now = file; before = [] }

-- the name goes to another file, or to none: a crash may take that back until the names are synced
abbrev pub renamed : {A : Type 0} → Option A → Place A → Place A
renamed file place = record { now = file; before = place.now ∷ place.before }

abbrev pub IsAmong : {A : Type 0} → A → List A → Type 0
IsAmong x [] = ⊥
IsAmong x (y ∷ ys) = (x ≡ y) ⊎ IsAmong x ys

-- it stands there, or a crash may bring it back
abbrev pub MayStand : {A : Type 0} → Place A → Option A → Type 0
MayStand place file = (file ≡ place.now) ⊎ IsAmong file place.before

-- a segment: its commits as it reads, and how many of them are on the disk
pub record Segment (C : Type 0) : Type 0 where
  pub commits : List C
  pub synced : ℕ

-- a new one
abbrev pub empty : {C : Type 0} → Segment C
empty = record { commits = []; synced = 0 }

-- all of these commits are on the disk
abbrev pub settled : {C : Type 0} → List C → Segment C
settled commits = record { commits = commits; synced = length commits }

-- what a crash leaves of it: the commits on the disk, and of the others the first ones; what is lost or torn comes behind
abbrev pub SegmentLeft : {C : Type 0} → Option (Segment C) → Option (List C) → Type 0
SegmentLeft None left = left ≡ None
SegmentLeft (Some segment) left =
    (count : ℕ) × (segment.synced ≤ count) × (left ≡ Some (take count segment.commits))

-- tables: what they read as, and whether they are on the disk
pub record Written (T : Type 0) : Type 0 where
  pub tables : T
  pub synced : Bool

-- they are on the disk
abbrev pub whole : {T : Type 0} → T → Written T
whole tables = record { tables = tables; synced = true }

-- what a crash leaves of them: anything, unless they are on the disk
abbrev pub TablesLeft : {T : Type 0} → Option (Written T) → Option T → Type 0
TablesLeft {T} None left = left ≡ None
TablesLeft {T} (Some file) left = (tables : T) × (left ≡ Some tables) × (file.synced ≡ true → tables ≡ file.tables)
