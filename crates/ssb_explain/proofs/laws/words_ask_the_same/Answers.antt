use Rattle.ssb_explain.proofs.WordLaws.{words}
use Rattle.ssb_explain.proofs.laws.words_ask_the_same.Goals as goal

pub returns : goal.returns
returns c = words
