use Rattle.std.proofs.Common.{◌≡◌, ℕ, ◌<◌, length}
use Rattle.std.specs.Prelude.{Some, slice_get}
use Rattle.ssb_audit.specs.declared.trace.Told.{Told}
use Rattle.ssb_audit.specs.declared.visits.Visit.{Visit}
use Rattle.ssb_audit.proofs.walk.questions_of.Given as goal

-- the questions so far are those of the visits so far
abbrev pub invariant-loop-visit : goal.invariant-loop-visit
invariant-loop-visit l = record {
  len : length l.questions.items ≡ l.visit-index;
  each : (k : ℕ) (visit : Visit) (told : Told) → k < l.visit-index → slice_get l.visits k ≡ Some visit
      → slice_get l.answers visit.place ≡ Some told
      → slice_get l.questions.items k ≡ Some told.question;
}
