use Rattle.std.proofs.Common.{◌<◌, ◌^◌, List, ℕ, get_or, subst}
use Rattle.scan_kernel.proofs.search.slices_of.Goals as goal

pub returns-clause-small : goal.returns-clause-small
returns-clause-small c = λ term.
    subst (λ (terms : List ℕ). get_or terms term 0 < 2 ^ 16) c.as_slice.ensures (c.narrow.ensures.narrow term)
