use Rattle.std.proofs.Common.{◌≡◌, ◌∙◌, ap, subst, arith, max}
use Rattle.std.specs.List.{AllZip}
use Rattle.rayon.specs.Lists.{chunks_of, chunks_size, chunks_slice}
use Rattle.rayon.proofs.ListFacts.{IfOk-then}
use Rattle.rayon.proofs.ToStd.{slice-AllZip, chunks_of-concat}
use Rattle.ssb_base.specs.Base.{Dimensions}
use Rattle.fact_columns.specs.Coded.{IsCoded}
use Rattle.fact_columns.proofs.coding.coded_pieces.Goals as goal

pub returns : goal.returns
returns g c =
    IfOk-then c.collect.result _ _ c.collect.ensures (λ v h.
    let cut = h.1.1 ∙ ap (λ it. chunks_of (max (chunks_size it) 1) (chunks_slice it)) c.map.ensures.base
    ∙ (λ i. chunks_of (max (c.par_chunks.ensures.size i) 1) (c.par_chunks.ensures.slice i)) in
    let dimensions : Dimensions = c.map.result.f.1.now.dimensions in
    let same : dimensions ≡ c.args.index.now.dimensions = ap (λ f. f.1.now.dimensions) c.map.ensures.f in
    let each : AllZip (λ lines table. IsCoded dimensions lines.now table) h.1.0 h.0 = h.1.2 in
    rw h.2 (record {
      pieces = chunks_of 16384 c.args.lines.now;
      whole = chunks_of-concat 16384 c.args.lines.now (omega arith);
      coded = slice-AllZip h.1.0 (chunks_of 16384 c.args.lines.now) cut (IsCoded c.args.index.now.dimensions) h.0
          (subst (λ (d : Dimensions). AllZip (λ lines table. IsCoded d lines.now table) h.1.0 h.0) same each);
    }))
