use Rattle.std.proofs.Common.{◌≢◌, take}
use Rattle.std.specs.List.{AllByRecursion}
use Rattle.ssb_explain.specs.Names.{system_name}
use Rattle.ssb_explain.proofs.system.System.by_name.Given as goal

abbrev pub invariant-loop-system : goal.invariant-loop-system
invariant-loop-system l = AllByRecursion (λ system. system_name system ≢ l.name) (take l.system-index l.system-items)
