use Rattle.ssb_answers.proofs.RearrangementLaws.{questions_ignore_order}
use Rattle.ssb_answers.proofs.laws.questions_ignore_order.Goals as goal

pub returns : goal.returns
returns c = λ question dimensions facts other moved. questions_ignore_order question dimensions facts other moved
