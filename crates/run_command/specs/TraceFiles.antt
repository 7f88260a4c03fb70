-- The files that the trace of a run may be written over.
use Rattle.std.specs.Prelude.{◌≡◌, ℕ, Bool, true, List, codes, length, nat_eq, ◌||◌, ◌==◌}
use Rattle.std.specs.List.{starts_with}
use Rattle.ssb_audit.specs.declared.trace.Trace.{Trace}
use Rattle.ssb_trace.specs.TraceText.{trace_text}

-- a file that has no bytes, or begins as a trace does: with a commit or with an answer
abbrev pub may_be_replaced : List ℕ → Bool
may_be_replaced head = (length head == 0) || (starts_with nat_eq head (codes "commit|")
    || starts_with nat_eq head (codes "answer|"))

-- a file with a trace may be written over
abbrev pub TracesMayBeReplaced : Type 0
TracesMayBeReplaced = (trace : Trace) → may_be_replaced (trace_text trace) ≡ true
