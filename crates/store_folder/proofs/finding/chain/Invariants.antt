use Rattle.std.proofs.Common.{[], ◌∷◌, ◌++◌}
use Rattle.store_folder.specs.Chain.{IsChainFrom}
use Rattle.store_folder.proofs.finding.chain.Given as goal

abbrev pub invariant-loop-number : goal.invariant-loop-number
invariant-loop-number g l = IsChainFrom l.first (l.closed.items ++ l.last ∷ [])
