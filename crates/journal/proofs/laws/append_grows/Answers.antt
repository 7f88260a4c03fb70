use Rattle.journal.proofs.GrowingLaws.{appending_later}
use Rattle.journal.proofs.laws.append_grows.Goals as goal

pub returns : goal.returns
returns c = λ old group file short appending. appending_later old group file short appending
