use Rattle.ssb_questions.proofs.StarMeaningLaws.{star_plan_means}
use Rattle.ssb_questions.proofs.star_meaning.star_plan_means.Goals as goal

pub returns : goal.returns
returns c = λ constants fit. star_plan_means constants fit
