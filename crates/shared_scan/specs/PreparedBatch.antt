-- A batch made ready.
use Rattle.std.specs.Prelude.{◌≤◌, length}
use Rattle.ssb_base.specs.Limits.{most_lines}
use Rattle.dimension_index.specs.Classes.{reduced}
use Rattle.scan_kernel.specs.Masks.{questions_a_pass}
use Rattle.shared_scan.specs.Prepared.{AreMasksOf}
use Rattle.shared_scan.specs.Masking.{CoverRows}
use Rattle.shared_scan.specs.Answers.{Prepared}
use Rattle.shared_scan.specs.Batch.{plans_of, questions_of, AreReady}
use Rattle.shared_scan.specs.declared.prepared.PreparedBatch.TheInside.{Inside}

-- a batch as contracts see it
abbrev pub prepared : Inside → Prepared
prepared batch = record { columns = batch.columns.now; questions = questions_of batch.questions.items }

-- no more lines are live than can be summed, and the masks and the groups are those of the questions, over the rows of
-- the base that begin a class
pub record IsPrepared (batch : Inside) : Type 0 where
  pub small : length batch.columns.now.facts ≤ most_lines
  pub few : length batch.questions.items ≤ questions_a_pass
  pub masks_tell :
      AreMasksOf (plans_of (questions_of batch.questions.items)) (reduced batch.columns.now.base).dimensions batch.masks
  pub masks_cover : CoverRows (reduced batch.columns.now.base).dimensions batch.masks
  pub ready :
      AreReady (reduced batch.columns.now.base) batch.masks (questions_of batch.questions.items) batch.questions.items
