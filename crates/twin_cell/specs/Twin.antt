-- What contracts see of the writer, of readers and notes, and of an entered copy.
use Rattle.std.specs.Prelude.{◌≡◌, ℕ, ◌+◌, List, length, Some, unwrap_or}
use Rattle.ssb_base.specs.Base.{Tables}
use Rattle.row_store.specs.History.{CommitRecord, IsPrefix}
use Rattle.row_store.specs.State.{State, state_of}
use Rattle.twin_cell.specs.NoTables.{no_tables}
use Rattle.twin_cell.specs.declared.rule.CellView.{CellView}

-- the writer: the base, the commits that readers take, and those that they do not see yet
pub record Writing : Type 0 where
  pub base : Tables
  pub published : List CommitRecord
  pub pending : List CommitRecord

-- a note: the base, and commits that are known to be published over it
pub record Known : Type 0 where
  pub base : Tables
  pub told : List CommitRecord

-- a reader: the same, and the commits that the copy stood for which it held last
pub record Reading : Type 0 where
  pub base : Tables
  pub told : List CommitRecord
  pub last : List CommitRecord

-- an entered copy: its state, commits that it stands for, and those that its reader was told
pub record Entered : Type 0 where
  pub state : State
  pub list : List CommitRecord
  pub told : List CommitRecord

-- the base that a seat names
abbrev pub base_in : CellView → Tables
base_in view = unwrap_or view.base no_tables

-- the seat names a base
abbrev pub IsNamed : CellView → Type 0
IsNamed view = view.base ≡ Some (base_in view)

-- what a seat was told
abbrev pub known : CellView → Known
known view = record { base = base_in view; told = view.told }

abbrev pub reading : CellView → Reading
reading view = record { base = base_in view; told = view.told; last = view.seen }

-- a copy in this state, which a seat has entered
abbrev pub entered : State → CellView → Entered
entered state view = record { state = state; list = view.seen; told = view.told }

-- the copy stands for the list that the seat has seen, which begins with what it was told
pub record IsEntered (state : State) (view : CellView) : Type 0 where
  pub stands : state ≡ state_of state.base view.seen
  pub base : view.base ≡ Some state.base
  pub begins : IsPrefix view.told view.seen

-- the writer of a replica in this state, with what its seat has published, and what is pending
abbrev pub writing : State → CellView → List CommitRecord → Writing
writing state view pending = record { base = state.base; published = view.told; pending = pending }

-- the replica stands for what was published, and so many commits were taken
pub record IsWriting (state : State) (view : CellView) (pending : List CommitRecord) (taken : ℕ) : Type 0 where
  pub stands : state ≡ state_of state.base view.told
  pub base : view.base ≡ Some state.base
  pub count : taken ≡ length view.told + length pending
