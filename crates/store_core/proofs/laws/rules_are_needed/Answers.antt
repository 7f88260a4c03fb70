use Rattle.store_core.proofs.NeededLaws.{names_unsynced, drops_early, begins_early, goes_on_early, folds_open}
use Rattle.store_core.proofs.laws.rules_are_needed.Goals as goal

pub returns : goal.returns
returns c = record {
  names_unsynced = names_unsynced;
  drops_early = drops_early;
  begins_early = begins_early;
  goes_on_early = goes_on_early;
  folds_open = folds_open;
}
