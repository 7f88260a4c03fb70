-- Questions made ready.
use Rattle.std.specs.Prelude.{ℕ, ◌≡◌, List, Some, map, slice_get, slice_index_or}
use Rattle.ssb_base.specs.Base.{Tables}
use Rattle.ssb_questions.specs.declared.plan.Plan.{Plan}
use Rattle.ssb_questions.specs.declared.query.Query.{Query}
use Rattle.ssb_questions.specs.declared.value.Value.{Value}
use Rattle.ssb_questions.specs.Queries.{plan_over}
use Rattle.scan_kernel.specs.declared.masks.Masks.{Masks}
use Rattle.scan_kernel.specs.Groups.{counts_of, size_of}
use Rattle.shared_scan.specs.declared.ready.Ready.{Ready}
use Rattle.shared_scan.specs.Grouped.{ArePrepared}
use Rattle.shared_scan.specs.Parts.{parts_in, IsFew}

-- question k of a batch is made ready
pub record IsReady (base : Tables) (masks : Masks) (k : ℕ) (question : Query × List Value)
    (ready : Ready) : Type 0 where
  pub question_is : ready.question ≡ question
  pub plan_is : ready.plan ≡ plan_over question.0 question.1
  pub prepared : ArePrepared base masks k ready.plan.groups ready.groups.columns.items 1 (parts_in ready.groups.parts)
  pub size_is : ready.groups.size ≡ size_of (counts_of ready.groups.columns.items)
  pub few : IsFew ready.groups.parts ready.groups.size

-- the questions' plans
abbrev pub plans_of : List (Query × List Value) → List Plan
plans_of questions = map (λ question. plan_over question.0 question.1) questions

-- the questions that were made ready
abbrev pub questions_of : List Ready → List (Query × List Value)
questions_of all = map (λ ready. ready.question) all

-- each question is made ready
abbrev pub AreReady : Tables → Masks → List (Query × List Value) → List Ready → Type 0
AreReady base masks questions all =
    (k : ℕ) (question : Query × List Value) (ready : Ready) → slice_get questions k ≡ Some question
    → IsReady base masks k question (slice_index_or all k ready)
