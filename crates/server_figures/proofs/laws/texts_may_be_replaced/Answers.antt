use Rattle.std.proofs.Common.{refl}
use Rattle.std.proofs.lemmas.Bool.{or_right}
use Rattle.server_figures.proofs.laws.texts_may_be_replaced.Goals as goal

pub returns : goal.returns
returns c = λ metrics. or_right _ _ refl
