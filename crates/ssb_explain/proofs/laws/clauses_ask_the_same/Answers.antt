use Rattle.ssb_explain.proofs.SameLaws.{same}
use Rattle.ssb_explain.proofs.laws.clauses_ask_the_same.Goals as goal

pub returns : goal.returns
returns c = same
