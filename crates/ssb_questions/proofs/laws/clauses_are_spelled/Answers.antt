use Rattle.ssb_questions.proofs.SpellingLaws.{clauses_spelled}
use Rattle.ssb_questions.proofs.laws.clauses_are_spelled.Goals as goal

pub returns : goal.returns
returns c = λ clauses all order. clauses_spelled clauses all order
