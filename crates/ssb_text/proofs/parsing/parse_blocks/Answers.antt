use Rattle.std.proofs.Common.{◌∙◌, subst}
use Rattle.std.specs.List.{AllZip}
use Rattle.rayon.proofs.ListFacts.{IfOk-then}
use Rattle.ssb_text.specs.Parsing.{IsParsedOk}
use Rattle.ssb_text.proofs.parsing.parse_blocks.Goals as goal

pub returns : goal.returns
returns g c =
    IfOk-then c.collect.result _ _ c.collect.ensures (λ v h.
    let chain = rw (c.map.ensures.base, c.map.ensures.f, c.with_min_len.ensures.base) at h.1 in
    rw h.2 (subst (λ blocks. AllZip (λ block read. IsParsedOk block.bytes.items read) blocks h.0)
    (chain.1 ∙ c.into_par_iter.ensures) chain.2))
