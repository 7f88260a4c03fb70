-- What a start finds in a store.
use Rattle.std.specs.Prelude.{◌≡◌, ◌⊎◌, ◌<◌, ◌≤◌, ℕ, ◌+◌, List, [], ◌∷◌, ◌++◌, length, take, fold, Option, Some, None}
use Rattle.std.specs.Prelude.{IfSome, unwrap_or}

-- a store as it reads: the tables after so many commits, and the commits behind so many, where they are there
pub record Store (T C : Type 0) : Type 0 where
  pub tables : ℕ → Option T
  pub segments : ℕ → Option (List C)

-- the commits of a segment; none where it is not there
abbrev pub commits_in : {C : Type 0} → (ℕ → Option (List C)) → ℕ → List C
commits_in segments n = unwrap_or (segments n) []

-- tables, the number of commits before them, and the commits behind them: of the segments that are closed, and of the last
pub record Found (T C : Type 0) : Type 0 where
  pub after : ℕ
  pub tables : T
  pub closed : List (List C)
  pub last : List C

-- the commits of closed segments, and more behind them
abbrev pub joined : {C : Type 0} → List (List C) → List C → List C
joined [] more = more
joined (part ∷ parts) more = part ++ joined parts more

-- where closed segments end that begin behind so many commits: there the next one begins
abbrev pub end_of : {C : Type 0} → ℕ → List (List C) → ℕ
end_of at [] = at
end_of at (part ∷ parts) = end_of (at + length part) parts

-- one of them begins behind n commits, or the next one does
abbrev pub IsBegin : {C : Type 0} → ℕ → List (List C) → ℕ → Type 0
IsBegin at [] n = n ≡ at
IsBegin at (part ∷ parts) n = (n ≡ at) ⊎ IsBegin (at + length part) parts n

-- no segment follows one that has commits
abbrev pub IsLast : {C : Type 0} → (ℕ → Option (List C)) → ℕ → List C → Type 0
IsLast segments at [] = Unit {0}
IsLast segments at (commit ∷ commits) = segments (at + length (commit ∷ commits)) ≡ None

-- segments follow one another: those that are closed have commits, and each begins where the one before ends
abbrev pub IsChain : {C : Type 0} → (ℕ → Option (List C)) → ℕ → List (List C) → List C → Type 0
IsChain segments at [] last = (segments at ≡ Some last) × IsLast segments at last
IsChain segments at (part ∷ parts) last =
    (segments at ≡ Some part) × (0 < length part) × IsChain segments (at + length part) parts last

-- these are the newest tables
pub record AreNewest {T : Type 0} (tables : ℕ → Option T) (after : ℕ) (newest : T) : Type 0 where
  pub are : tables after ≡ Some newest
  pub none_newer : (n : ℕ) → after < n → tables n ≡ None

-- a start finds this: the newest tables and the segments behind them; no other segment behind them has commits
pub record Finds {T C : Type 0} (store : Store T C) (found : Found T C) : Type 0 where
  pub newest : AreNewest store.tables found.after found.tables
  pub chain : IsChain store.segments found.after found.closed found.last
  pub no_gap : (n : ℕ) → found.after < n → IsBegin found.after found.closed n
      ⊎ IfSome (store.segments n) (λ commits. commits ≡ [])

-- the tables after commits, each of which makes the next ones of those before it
abbrev pub tables_after : {T C : Type 0} → (T → C → T) → T → List C → T
tables_after next first commits = fold next first commits

-- what was found are the first commits of a log, at least so many: the tables after some of them, and the others
pub record IsBeginning {T C : Type 0} (next : T → C → T) (first : T) (log : List C) (least : ℕ) (found : Found T C)
    : Type 0 where
  pub count : ℕ
  pub enough : least ≤ count
  pub inside : count ≤ length log
  pub tables : found.tables ≡ tables_after next first (take found.after log)
  pub commits : take count log ≡ take found.after log ++ joined found.closed found.last
