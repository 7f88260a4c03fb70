use Rattle.std.proofs.Common.{ap, ◌∙◌}
use Rattle.ssb_serving.proofs.dispatchers.start_dispatcher.Goals as goal

pub returns : goal.returns
returns g c = ap (λ p. p.dispatcher.value) c.in_ok-thread.ensures.ok ∙ c.of.ensures
