-- What the seats of the cell know, and the rule over the published replica and them.
use Rattle.std.specs.Prelude.{◌≡◌, ℕ, List, [], ◌++◌, Some, None}
use mathlib.Core.Option.{some}
use lib.ListN.{get_elem?}
use Rattle.ssb_base.specs.Base.{Tables}
use Rattle.row_store.specs.History.{CommitRecord, IsPrefix}
use Rattle.row_store.specs.State.{State, state_of}
use Rattle.twin_cell.specs.declared.rule.CellView.{CellView}

-- a seat that was told nothing
abbrev pub newcomer : CellView
newcomer = record { base = None; told = []; seen = [] }

-- a seat that names a base names this one
abbrev pub IsOver : Tables → CellView → Type 0
IsOver base view = (named : Tables) → view.base ≡ Some named → named ≡ base

-- the published replica stands for a list of commits, which begins with what each seat was told, over the base that
-- each names
pub record Follows (state : State) (views : List CellView) : Type 0 where
  pub list : List CommitRecord
  pub stands : state ≡ state_of state.base list
  pub told : (seat : ℕ) (view : CellView) → get_elem? views seat ≡ some view → IsPrefix view.told list
  pub over : (seat : ℕ) (view : CellView) → get_elem? views seat ≡ some view → IsOver state.base view

-- a seat has entered a copy in this state: it knows the list that the copy stands for, which begins with what it was
-- told
pub record HasSeen (before : CellView) (state : State) (after : CellView) : Type 0 where
  pub stands : state ≡ state_of state.base after.seen
  pub begins : IsPrefix before.told after.seen
  pub told : after.told ≡ before.told
  pub over : IsOver state.base before
  pub base : after.base ≡ Some state.base

-- a seat has published these commits, after which the replica is in this state
pub record HasPublished (more : List CommitRecord) (before : CellView) (state : State) (after : CellView) : Type 0 where
  pub told : after.told ≡ before.told ++ more
  pub base : after.base ≡ Some state.base
