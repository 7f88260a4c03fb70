-- A file of groups that another process writes while it is read.
use Rattle.std.specs.Prelude.{◌≡◌, ◌≤◌, ℕ, Bool, true, false, List, [], ◌∷◌, ◌++◌, length, take, drop}
use Rattle.journal.specs.Groups.{recovered, behind}
use Rattle.journal.specs.Promises.{AreLeft}
use Rattle.journal.specs.Reading.{AreRead, HasFirst}

-- a file stands for all that it stood for before, and perhaps for more
abbrev pub HasGrown : List ℕ → List ℕ → Type 0
HasGrown old new = HasFirst (recovered old) new

-- behind the groups that count no gate is open
abbrev pub IsShut : List ℕ → Type 0
IsShut file = (rest : List ℕ) → behind file ≡ 49 ∷ rest → ⊥

-- a moment of a file that grows
pub record IsLater (old new : List ℕ) : Type 0 where
  pub grown : HasGrown old new
  pub shut : IsShut new

-- what one read takes, front to back, of a file that grows meanwhile: up to a place as it was, from there on as it is
abbrev pub read_across : ℕ → List ℕ → List ℕ → List ℕ
read_across at old new = take at old ++ drop at new

-- a place that a read has come to, and the file as it is from then on
pub record Moment : Type 0 where
  pub at : ℕ
  pub file : List ℕ

-- a read goes on from a place where it has read these bytes, of a file that was so before: the file has grown since
pub record GoesOn (bytes was : List ℕ) (moment : Moment) : Type 0 where
  pub inside : moment.at ≤ length bytes
  pub later : IsLater was moment.file

-- what a read takes of a file that grows as often as it likes meanwhile, the last moment first: each time what is behind
-- the place that it has come to is read of the file as it is then. It begins and ends with the file as it is told
abbrev pub IsReadOf : List ℕ → List Moment → List ℕ → List ℕ → Type 0
IsReadOf first [] bytes last = (bytes ≡ first) × (last ≡ first)
IsReadOf first (moment ∷ moments) bytes last =
    (before : List ℕ) × (was : List ℕ) × IsReadOf first moments before was × GoesOn before was moment
    × (bytes ≡ read_across moment.at before moment.file) × (last ≡ moment.file)

-- what a reader of a growing file has, as contracts see it: the file, as far as it was read, the groups that were taken
-- of it, and the bytes that were read behind them
pub record FollowedGroups (F : Type 0) : Type 0 where
  pub file : F
  pub groups : List (List ℕ)
  pub rest : List ℕ

-- what was read of a file is the blocks of the groups that were taken, and the bytes of a buffer from a place on; no
-- crash takes the groups away, nor those in the buffer, where it was synced
pub record AreFollowed (seen : List ℕ) (may_leave : List ℕ → Type 0) (groups : List (List ℕ)) (buffer : List ℕ)
    (place end : ℕ) (synced : Bool) : Type 0 where
  pub read : AreRead seen (Unit {0}) groups buffer place end false
  pub left : AreLeft groups may_leave
  pub more : synced ≡ true → AreLeft (groups ++ recovered (drop place buffer)) may_leave
