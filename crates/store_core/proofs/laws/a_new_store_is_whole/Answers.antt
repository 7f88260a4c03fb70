use Rattle.store_core.proofs.MakingLaws.{makes_none_or_all, made_store_stays}
use Rattle.store_core.proofs.laws.a_new_store_is_whole.Goals as goal

pub returns : goal.returns
returns g c = record {
  none_or_all = λ first calls may left is_left. makes_none_or_all first calls may left is_left;
  stays = λ first calls may known left is_left. made_store_stays first calls may known left is_left;
}
