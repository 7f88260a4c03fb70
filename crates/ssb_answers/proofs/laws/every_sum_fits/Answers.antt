use Rattle.ssb_answers.proofs.AmountLaws.{sum_fits}
use Rattle.ssb_answers.proofs.laws.every_sum_fits.Goals as goal

pub returns : goal.returns
returns c = λ measure facts few within. sum_fits measure facts few within
