-- The text of a trace and its reading.
use Rattle.std.specs.Prelude.{◌≡◌, ℕ, ◌≤◌, List, length, FitsSigned, IfSome}
use Rattle.std.specs.Int.{w64}
use Rattle.std.specs.List.{AllByRecursion}
use Rattle.ssb_audit.specs.Legal.{IsLegalTrace}
use Rattle.ssb_audit.specs.declared.trace.Trace.{Trace}
use Rattle.ssb_questions.specs.Members.{Has}
use Rattle.ssb_questions.specs.declared.query.Query.{Query}
use Rattle.ssb_questions.specs.declared.value.Value.{Value}
use Rattle.ssb_answers.specs.Answer.{answer_of}
use Rattle.ssb_answers.specs.declared.answer.ResultRow.{ResultRow}
use Rattle.ssb_base.specs.Base.{Dimensions, Tables}
use Rattle.ssb_schema.specs.declared.fact.Fact.{Fact}
use Rattle.ssb_trace.specs.TraceText.{trace_text}
use Rattle.ssb_trace.specs.Traces.{SpellsTrace}
use Rattle.ssb_trace.specs.Allowed.{AreTakenDimensions, HasAllowedHead, HasSums, IsAllowed, IsAllowedCommit}
use Rattle.ssb_trace.specs.Allowed.{IsAllowedRow, lines_of_trace}

-- the text of a trace that is allowed spells it, wherever so many records may be read
abbrev pub TextSpellsItsTrace : Type 0
TextSpellsItsTrace =
    (trace : Trace) (most : ℕ) → IsAllowed trace → length (lines_of_trace trace) ≤ most
    → SpellsTrace most (trace_text trace) trace

-- and it spells no other, whatever the bound of records
abbrev pub TextSpellsNoOther : Type 0
TextSpellsNoOther =
    (trace other : Trace) (most : ℕ) → IsAllowed trace → SpellsTrace most (trace_text trace) other → other ≡ trace

-- each row of an answer over dimensions that the schema takes is allowed, where its sum has 64 bits
abbrev pub AnswersHaveAllowedRows : Type 0
AnswersHaveAllowedRows =
    (question : Query × List Value) (dimensions : Dimensions) (facts : List Fact) (row : ResultRow)
    → AreTakenDimensions dimensions → Has (answer_of question dimensions facts) row
    → IfSome row.sum (FitsSigned w64) → IsAllowedRow question row

-- a legal trace over such dimensions is allowed, where its commits, the heads of its answers and their sums are
abbrev pub LegalTracesAreAllowed : Type 0
LegalTracesAreAllowed =
    (base : Tables) (trace : Trace) → AreTakenDimensions base.dimensions → IsLegalTrace base trace
    → AllByRecursion IsAllowedCommit trace.commits → AllByRecursion HasAllowedHead trace.answers
    → AllByRecursion HasSums trace.answers → IsAllowed trace

-- the text of a trace is read as that trace, wherever so many records may be read, and as no other
pub record IsReadBack (trace : Trace) : Type 0 where
  pub spells : (most : ℕ) → length (lines_of_trace trace) ≤ most → SpellsTrace most (trace_text trace) trace
  pub no_other : (most : ℕ) (other : Trace) → SpellsTrace most (trace_text trace) other → other ≡ trace
