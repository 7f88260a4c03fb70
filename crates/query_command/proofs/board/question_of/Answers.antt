use Rattle.std.proofs.Common.{refl, rules}
use Rattle.query_command.proofs.board.question_of.Goals as goal

pub returns-in-Err-NoSuchQuery-clause-fault : goal.returns-in-Err-NoSuchQuery-clause-fault
returns-in-Err-NoSuchQuery-clause-fault c = (refl, c.in-Err-NoSuchQuery.ensures.words (search rules))

pub returns-in-Err-Constants-clause-fault : goal.returns-in-Err-Constants-clause-fault
returns-in-Err-Constants-clause-fault c = (refl, c.in-Err-Constants.ensures.words (search rules))
