-- Copies of a store, whose files may be of several moments.
use Rattle.std.specs.Prelude.{◌≡◌, ◌≤◌, ℕ, List, ◌++◌, take, Some, IfSome}
use Rattle.store_core.specs.Places.{Segment, whole}
use Rattle.store_core.specs.Found.{Store, Found, Finds, IsBeginning}
use Rattle.store_core.specs.World.{World, Step, new_world}
use Rattle.store_core.specs.Runs.{IsRun, after_all}

-- the world of a run at some moment of it
pub record IsMoment {T C : Type 0} (first : T) (steps : List (Step T C)) (w : World T C) : Type 0 where
  pub before : List (Step T C)
  pub later : List (Step T C)
  pub are : steps ≡ before ++ later
  pub is : w ≡ after_all (new_world first) before

-- at some moment these tables had the name
pub record WereNamed {T C : Type 0} (first : T) (steps : List (Step T C)) (n : ℕ) (tables : T) : Type 0 where
  pub world : World T C
  pub moment : IsMoment first steps world
  pub there : (world.tables n).now ≡ Some (whole tables)

-- at some moment these were the first commits of the segment, and were on the disk
pub record WereOnDisk {T C : Type 0} (first : T) (steps : List (Step T C)) (n : ℕ) (commits : List C) : Type 0 where
  pub world : World T C
  pub moment : IsMoment first steps world
  pub segment : Segment C
  pub there : (world.segments n).now ≡ Some segment
  pub count : ℕ
  pub synced : count ≤ segment.synced
  pub are : commits ≡ take count segment.commits

-- each file of a copy is of some moment of the run, one of its own, and has no more than was on the disk then
pub record IsCopy {T C : Type 0} (first : T) (steps : List (Step T C)) (copy : Store T C) : Type 0 where
  pub tables : (n : ℕ) → IfSome (copy.tables n) (λ tables. WereNamed first steps n tables)
  pub segments : (n : ℕ) → IfSome (copy.segments n) (λ commits. WereOnDisk first steps n commits)

-- whatever moments the files of a copy are of, what a start finds in it is a beginning of the log
abbrev pub CopiesAreTrue : {T C : Type 0} → (T → C → T) → Type 0
CopiesAreTrue {T} {C} next = (first : T) (steps : List (Step T C)) → IsRun next (new_world first) steps
    → (copy : Store T C) → IsCopy first steps copy → (found : Found T C) → Finds copy found
    → IsBeginning next first (after_all (new_world first) steps).log 0 found
