use Rattle.std.proofs.Common.{◌∙◌, ap}
use Rattle.rayon.proofs.ListFacts.{IfOk-then}
use Rattle.rayon.proofs.ToStd.{slice-AllZip}
use Rattle.ssb_journal.specs.Gathered.{IsTextOf}
use Rattle.ssb_journal.proofs.reading.texts_found.Goals as goal

pub returns : goal.returns
returns g c =
    let slice = ap (λ it. it.slice.now) (ap (λ it. it.base) c.map.ensures.base ∙ c.with_min_len.ensures.base) ∙ c.par_iter.ensures in
    IfOk-then c.collect.result _ _ c.collect.ensures (λ v h.
    let chain = h.1 in
    rw h.2 (slice-AllZip chain.0 c.args.groups.now (chain.1 ∙ slice) (λ group text. IsTextOf group.items text) h.0
    chain.2))
