use Rattle.ssb_questions.proofs.PlainLaws.{plain_clauses}
use Rattle.ssb_questions.proofs.laws.clauses_are_plain.Goals as goal

pub returns : goal.returns
returns c = λ constants none. plain_clauses constants none
