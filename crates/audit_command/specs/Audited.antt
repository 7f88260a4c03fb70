-- What the audit of a trace over a base tells.
use Rattle.std.specs.Prelude.{◌≡◌, ℕ, List, ◌++◌, length, codes, decimal, Option, Some}
use Rattle.std.specs.Io.KnownBytes.{Appends}
use Rattle.ssb_audit.specs.Legal.{IsLegalTrace}
use Rattle.ssb_audit.specs.Traces.{trace_fault}
use Rattle.ssb_audit.specs.declared.fault.AuditFault.{AuditFault}
use Rattle.ssb_audit.specs.declared.trace.Trace.{Trace}
use Rattle.ssb_files.specs.Status.{script_status}
use Rattle.ssb_text.specs.Numbers.{line_feed}
use Rattle.ssb_script.specs.Scripts.{most_records}
use Rattle.ssb_text.specs.Written.{AppendsPart}
use Rattle.ssb_base.specs.Base.{Tables}
use Rattle.ssb_script.specs.declared.error.ScriptError.{ScriptError}
use Rattle.ssb_trace.specs.Traces.{IsTraceFault, SpellsTrace}

-- the line that tells of a legal trace: how many commits and answers it has
abbrev pub verdict_text : Trace → List ℕ
verdict_text trace = codes "ok " ++
    (decimal (length trace.commits) ++ (codes " " ++ (decimal (length trace.answers) ++ line_feed)))

-- the bytes spell a trace that is legal over the base
pub record IsLegalOver (base : Tables) (bytes : List ℕ) (trace : Trace) : Type 0 where
  pub spelled : SpellsTrace most_records bytes trace
  pub legal : IsLegalTrace base trace

-- the trace is legal, and known bytes grow by its line
pub record Audits (base : Tables) (bytes : List ℕ) (old new : Option (List ℕ)) : Type 0 where
  pub trace : Trace
  pub legal : IsLegalOver base bytes trace
  pub appends : Appends old new (verdict_text trace)

-- the trace is legal, and known bytes grow by a part of its line from its beginning on
pub record AuditsPart (base : Tables) (bytes : List ℕ) (old new : Option (List ℕ)) : Type 0 where
  pub trace : Trace
  pub legal : IsLegalOver base bytes trace
  pub appends : AppendsPart old new (verdict_text trace)

-- the bytes of a trace are refused: they have a fault, which is no failed read and no want of memory
pub record IsRefusedTrace (bytes : List ℕ) : Type 0 where
  pub fault : ScriptError
  pub first : IsTraceFault most_records bytes fault
  pub of_trace : script_status fault ≡ 1

-- something speaks against a trace over a base
pub record HasFault (base : Tables) (trace : Trace) : Type 0 where
  pub fault : AuditFault
  pub first : trace_fault base trace ≡ Some fault

-- the bytes spell a trace that something speaks against, over the base
pub record SpeaksAgainst (base : Tables) (bytes : List ℕ) : Type 0 where
  pub trace : Trace
  pub spelled : SpellsTrace most_records bytes trace
  pub faulty : HasFault base trace
