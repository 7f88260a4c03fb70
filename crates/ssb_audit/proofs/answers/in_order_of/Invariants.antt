use Rattle.std.proofs.Common.{◌≡◌, ℕ, ◌<◌, take}
use Rattle.std.specs.Prelude.{Some, None, slice_get}
use Rattle.ssb_audit.specs.Traces.{order_fault}
use Rattle.ssb_audit.specs.declared.trace.Told.{Told}
use Rattle.ssb_audit.proofs.answers.in_order_of.Given as goal

-- no answer so far has a fault of order
abbrev pub invariant-loop-place : goal.invariant-loop-place
invariant-loop-place l = (i : ℕ) (told : Told) → i < l.place → slice_get l.answers i ≡ Some told
    → order_fault l.commits (take i l.answers) told ≡ None
