use Rattle.std.proofs.Common.{ap, ◌∙◌}
use Rattle.shared_scan.specs.declared.standing.ReadyBatch.{ReadyBatch}
use Rattle.shared_scan.proofs.FollowLaws.{comes_along}
use Rattle.shared_scan.proofs.standing.StandingWatch.come.Goals as goal

pub returns : goal.returns
returns c = λ base fewer more one both. (
  ap (λ (b : ReadyBatch). b.index.value) c.change.ensures.batch_is ∙ both.0,
  comes_along c.args.self.now c.change.new.self c.args.line.now fewer more c.change.ensures one both.1,
)
