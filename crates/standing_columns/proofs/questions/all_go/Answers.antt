use Rattle.std.proofs.Common.{◌≡◌, ℕ, ◌<◌, List, length, arith, ◌∙◌}
use Rattle.std.proofs.lemmas.List.{get_or-set_other}
use Rattle.scan_kernel.proofs.WrittenLaws.{written_more}
use Rattle.shared_scan.specs.declared.standing.Standing.{Standing}
use Rattle.standing_columns.proofs.StandingLaws.{Goes, all_go}
use Rattle.standing_columns.proofs.questions.all_go.Goals as goal

pub loop-batch-preserved : goal.loop-batch-preserved
loop-batch-preserved c =
    let i = c.loop-batch.batch-index in
    let mid : List Standing = c.loop-batch.batches in
    let old : List Standing = c.args.batches.now in
    let item : Standing = c.batch-item.result in
    let new : Standing = c.go.new.self in
    let P : ℕ → Standing → Standing → Standing → Type 0 = λ k q s t. Goes c.args.line.now s t in
    let in_mid : i < length mid = omega arith in
    let in_old : i < length old = omega arith in
    record {
      done = λ k t below. written_more P old old mid i item item new in_old in_mid in_old
          (λ k q t lt. c.loop-batch.invariant.done k t lt) c.loop-batch.invariant.left c.go.ensures k t t below;
      left = λ k t le. get_or-set_other mid i k new t (λ e. absurd (omega (arith, le, e)))
          ∙ c.loop-batch.invariant.left k t (omega (arith, le));
    }

pub returns : goal.returns
returns c =
    let old : List Standing = c.args.batches.now in
    let new : List Standing = c.loop-batch.batches in
    let len : length new ≡ length old = omega arith in
    let count : c.loop-batch.batch-index ≡ length old = omega arith in
    λ base fewer more one all. all_go old new len c.args.line.now
    (λ k t below. c.loop-batch.invariant.done k t (omega (arith, below, count))) base fewer more one all
