use Rattle.std.proofs.Common.{arith}
-- A legal trace is allowed, where its parts are: its answers' rows are those of their questions.
use Rattle.std.proofs.Common.{◌≡◌, ℕ, List, [], ◌∷◌, Some, refl, suc, zero, inl, inr}
use Rattle.std.proofs.Common.{slice_get}
use Rattle.std.specs.List.{AllByRecursion}
use Rattle.row_store.specs.History.{CommitRecord}
use Rattle.ssb_audit.specs.Legal.{IsTrueOf}
use Rattle.ssb_audit.specs.declared.trace.Told.{Told}
use Rattle.ssb_questions.specs.Members.{Has}
use Rattle.ssb_answers.proofs.MemberLaws.{all_at}
use Rattle.ssb_base.specs.Base.{Tables}
use Rattle.ssb_trace.specs.Allowed.{AreTakenDimensions, HasAllowedHead, HasSums, IsAllowedTold}
use Rattle.ssb_trace.specs.RoundTrip.{LegalTracesAreAllowed}
use Rattle.ssb_trace.proofs.AnsweredRowLaws.{answers_have_allowed_rows}

all-from : {X : Type 0} (P : X → Type 0) (xs : List X) → ((x : X) → Has xs x → P x) → AllByRecursion P xs
all-from P [] each = tt
all-from P (x ∷ xs) each = (each x (inl refl), all-from P xs (λ y has. each y (inr has)))

told-allowed : (base : Tables) (commits : List CommitRecord) (told : Told) → AreTakenDimensions base.dimensions
    → IsTrueOf base commits told
    → HasAllowedHead told → HasSums told → IsAllowedTold told
told-allowed base commits told taken true_of head sums = grind (arith, all-from, answers_have_allowed_rows, all_at)

all-allowed : (base : Tables) (commits : List CommitRecord) (answers : List Told) → AreTakenDimensions base.dimensions
    → ((i : ℕ) (told : Told) → slice_get answers i ≡ Some told → IsTrueOf base commits told)
    → AllByRecursion HasAllowedHead answers → AllByRecursion HasSums answers → AllByRecursion IsAllowedTold answers
all-allowed base commits [] taken true_of heads sums = tt
all-allowed base commits (told ∷ answers) taken true_of heads sums = (
  told-allowed base commits told taken (true_of zero told refl) heads.0 sums.0,
  all-allowed base commits answers taken (λ i other there. true_of (suc i) other there) heads.1 sums.1,
)

pub legal_traces_are_allowed : LegalTracesAreAllowed
legal_traces_are_allowed base trace taken legal commits heads sums =
    record { commits = commits; answers = all-allowed base trace.commits trace.answers taken legal.answers heads sums }
