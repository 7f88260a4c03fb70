use Rattle.std.proofs.Common.{◌≡◌, ℕ, ◌<◌, ◌≤◌, List, length, drop, get_or, Some}
use Rattle.std.specs.Prelude.{All, slice_get}
use Rattle.dimension_index.specs.Classes.{reduced}
use Rattle.ssb_questions.specs.declared.query.Query.{Query}
use Rattle.ssb_questions.specs.declared.value.Value.{Value}
use Rattle.shared_scan.specs.Batch.{IsReady, plans_of}
use Rattle.shared_scan.specs.declared.ready.Ready.{Ready}
use Rattle.shared_scan.proofs.prepared.PreparedBatch.new.Given as goal

abbrev pub invariant-loop-plan : goal.invariant-loop-plan
invariant-loop-plan l = record {
  within : length l.all.items ≤ length l.questions;
  plans : l.plan-iterator.rest.items ≡ plans_of (drop (length l.all.items) l.questions);
  four : All (λ plan. length plan.groups ≤ 4) l.plan-iterator.rest.items;
  ready : (k : ℕ) (question : Query × List Value) (r : Ready) → k < length l.all.items
      → slice_get l.questions k ≡ Some question
      → IsReady (reduced l.fn.columns.base) l.masks k question (get_or l.all.items k r);
}
