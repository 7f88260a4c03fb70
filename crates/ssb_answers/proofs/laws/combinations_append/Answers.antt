use Rattle.ssb_answers.proofs.SumLaws.{combinations-append}
use Rattle.ssb_answers.proofs.laws.combinations_append.Goals as goal

pub returns : goal.returns
returns c = λ plan dimensions facts more. combinations-append plan dimensions facts more
