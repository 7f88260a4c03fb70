use Rattle.journal.specs.Groups.{recovered}
use Rattle.journal.proofs.GrowingLaws.{begins}
use Rattle.journal.proofs.laws.grown_file_begins_alike.Goals as goal

pub returns : goal.returns
returns c = λ old new grown. begins (recovered old) new grown
