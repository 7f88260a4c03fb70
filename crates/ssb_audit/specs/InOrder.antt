-- The answers before the first fault of order.
use Rattle.std.specs.Prelude.{◌≡◌, ℕ, ◌<◌, ◌≤◌, List, length, take, slice_get, Option, Some, None, MatchOption}
use Rattle.ssb_audit.specs.Traces.{order_fault}
use Rattle.ssb_audit.specs.declared.fault.AuditFault.{AuditFault}
use Rattle.ssb_audit.specs.declared.trace.Told.{Told}

-- the answer at a place has this fault of order
pub record IsDisorder (commits : ℕ) (answers : List Told) (place : ℕ) (fault : AuditFault) : Type 0 where
  pub told : Told
  pub there : slice_get answers place ≡ Some told
  pub told_is : order_fault commits (take place answers) told ≡ Some fault

-- none of the first answers has a fault of order, and this is the fault of the next one; without a fault they are all
pub record AreInOrder (commits : ℕ) (answers : List Told) (count : ℕ) (fault : Option AuditFault) : Type 0 where
  pub within : count ≤ length answers
  pub clear : (i : ℕ) (told : Told) → i < count → slice_get answers i ≡ Some told
      → order_fault commits (take i answers) told ≡ None
  pub next : MatchOption fault (count ≡ length answers) (IsDisorder commits answers count)
