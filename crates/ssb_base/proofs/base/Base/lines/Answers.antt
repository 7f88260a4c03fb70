use Rattle.ssb_base.specs.Views.{base_view}
use Rattle.ssb_base.proofs.BaseLaws.{base_keeps}
use Rattle.ssb_base.proofs.base.Base.lines.Goals as goal

pub returns-clause-sound : goal.returns-clause-sound
returns-clause-sound c = rw (← c.self.view_is) (base_keeps (base_view c.self.inside) c.self.invariant)
