use Rattle.ssb_answers.proofs.RearrangementLaws.{answer-permutation}
use Rattle.ssb_answers.proofs.laws.answers_ignore_order.Goals as goal

pub returns : goal.returns
returns c = λ plan dimensions facts other orders moved. answer-permutation plan dimensions facts other moved orders
