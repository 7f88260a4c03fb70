-- Laws over what a text spells.
use Rattle.std.specs.Prelude.{◌≡◌, ℕ, List}
use Rattle.ssb_audit.specs.declared.trace.Trace.{Trace}
use Rattle.ssb_trace.specs.Traces.{SpellsTrace}

-- a text has one reading: it spells no two traces, whatever the bounds of records
abbrev pub HasOneReading : List ℕ → Type 0
HasOneReading text = (most more : ℕ) (one other : Trace) → SpellsTrace most text one → SpellsTrace more text other
    → one ≡ other
