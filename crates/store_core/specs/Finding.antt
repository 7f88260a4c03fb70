-- What the numbers of a folder tell of what a start finds, and why it finds nothing.
use Rattle.std.specs.Prelude.{◌≡◌, ◌⊎◌, ◌<◌, ℕ, ◌+◌, List, [], ◌∷◌, length, slice_index, Option, Some, None}
use Rattle.std.specs.Prelude.{IsSome, ⊤}
use Rattle.store_core.specs.Found.{Store, Found, Finds, AreNewest, end_of, commits_in}
use Rattle.store_core.specs.declared.finding.FoundStore.{FoundStore}
use Rattle.store_core.specs.declared.finding.FindFault.{FindFault}
use Rattle.store_core.specs.declared.finding.FindFault.TheVariants.{NoStore, Gap, Unread, OutOfMemory}

-- these are the numbers of the files that are there, each greater than those before it
pub record AreNumbersOf {A : Type 0} (files : ℕ → Option A) (numbers : List ℕ) : Type 0 where
  pub there : (k : ℕ) → k < length numbers → IsSome (files (slice_index numbers k))
  pub all : (n : ℕ) → IsSome (files n) → (k : ℕ) × (k < length numbers) × (slice_index numbers k ≡ n)
  pub ascending : (i j : ℕ) → i < j → j < length numbers → slice_index numbers i < slice_index numbers j

-- where segments begin, one behind another
abbrev pub begins_of : {C : Type 0} → ℕ → List (List C) → List ℕ
begins_of at [] = []
begins_of at (part ∷ parts) = at ∷ begins_of (at + length part) parts

-- these are the numbers of what a start finds
pub record Tells {T C : Type 0} (store : Store T C) (told : FoundStore) : Type 0 where
  pub found : Found T C
  pub finds : Finds store found
  pub after : told.after ≡ found.after
  pub closed : told.closed.items ≡ begins_of found.after found.closed
  pub last : told.last ≡ end_of found.after found.closed

-- segments with commits follow one another, the first of this number
abbrev pub AreJoined : {C : Type 0} → (ℕ → Option (List C)) → ℕ → List (List C) → Type 0
AreJoined segments at [] = ⊤
AreJoined segments at (part ∷ parts) =
    (segments at ≡ Some part) × (0 < length part) × AreJoined segments (at + length part) parts

-- they lead from there to this number
abbrev pub Leads : {C : Type 0} → (ℕ → Option (List C)) → ℕ → ℕ → Type 0
Leads {C} segments at n = (parts : List (List C)) × AreJoined segments at parts × (end_of at parts ≡ n)

-- the first segment with commits to which none lead
pub record IsStray {C : Type 0} (segments : ℕ → Option (List C)) (after n : ℕ) : Type 0 where
  pub begun : IsSome (segments after)
  pub behind : after < n
  pub some : 0 < length (commits_in segments n)
  pub apart : Leads segments after n → ⊥
  pub first : (m : ℕ) → after < m → m < n → 0 < length (commits_in segments m) → Leads segments after m

-- commits are missing before this number: the newest tables have so many, and no segment follows; or it is a stray
pub record IsGap {T C : Type 0} (store : Store T C) (n : ℕ) : Type 0 where
  pub after : ℕ
  pub tables : T
  pub newest : AreNewest store.tables after tables
  pub gap : ((n ≡ after) × (store.segments after ≡ None)) ⊎ IsStray store.segments after n

-- there are no whole tables
abbrev pub HasNone : {T C : Type 0} → Store T C → Type 0
HasNone store = (n : ℕ) → store.tables n ≡ None

-- a start finds a store, or tells one fault: never both, and of the gaps one alone is told
pub record OneFinding {T C : Type 0} (store : Store T C) : Type 0 where
  pub not_none : (found : Found T C) → Finds store found → HasNone store → ⊥
  pub no_gap : (found : Found T C) (n : ℕ) → Finds store found → IsGap store n → ⊥
  pub not_both : (n : ℕ) → IsGap store n → HasNone store → ⊥
  pub one_gap : (n m : ℕ) → IsGap store n → IsGap store m → n ≡ m

-- why a start finds nothing
abbrev pub IsFaultOf : {T C E : Type 0} → Store T C → FindFault E → Type 0
IsFaultOf store NoStore = HasNone store
IsFaultOf store (Gap n) = IsGap store n
IsFaultOf store (Unread fault) = ⊤
IsFaultOf store OutOfMemory = ⊤
