use Rattle.journal.specs.Groups.{recovered}
use Rattle.journal.proofs.GrowingLaws.{grown_again}
use Rattle.journal.proofs.laws.growth_goes_on.Goals as goal

pub returns : goal.returns
returns c = λ first second third before after. grown_again (recovered first) second third before after
