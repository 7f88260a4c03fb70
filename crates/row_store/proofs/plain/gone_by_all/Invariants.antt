use Rattle.std.proofs.Common.{◌≡◌, take, flat_map}
use Rattle.row_store.specs.Absorbing.{gone_by}
use Rattle.row_store.proofs.plain.gone_by_all.Given as goal

abbrev pub invariant-loop-action : goal.invariant-loop-action
invariant-loop-action l = l.keys.items ≡ flat_map gone_by (take l.action-index l.actions)
