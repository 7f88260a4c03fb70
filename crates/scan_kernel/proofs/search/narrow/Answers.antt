use Rattle.scan_kernel.proofs.search.narrow.Goals as goal

pub returns-clause-narrow : goal.returns-clause-narrow
returns-clause-narrow c = λ at. (c.type_inv.masks at).fits
