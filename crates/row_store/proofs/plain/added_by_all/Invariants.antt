use Rattle.std.proofs.Common.{◌≡◌, [], take}
use Rattle.row_store.specs.Lines.{lines_after_refresh}
use Rattle.row_store.proofs.plain.added_by_all.Given as goal

abbrev pub invariant-loop-action : goal.invariant-loop-action
invariant-loop-action l = l.fresh.items ≡ lines_after_refresh [] (take l.action-index l.actions)
