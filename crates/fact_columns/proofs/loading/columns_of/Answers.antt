use Rattle.std.proofs.Common.{◌-◌, List, take, drop, subst, ap, arith}
use Rattle.std.proofs.lemmas.List.{take_all}
use Rattle.ssb_schema.specs.declared.fact.Fact.{Fact}
use Rattle.ssb_schema.specs.Facts.{facts_of}
use Rattle.fact_columns.specs.Coded.{AreCoded, AreCodesOf}
use Rattle.fact_columns.proofs.CodingLaws.{batch_facts}
use Rattle.fact_columns.proofs.loading.columns_of.Goals as goal

pub loop-done-preserved : goal.loop-done-preserved
loop-done-preserved g c =
    let dimensions = c.args.index.now.dimensions in
    let lines = c.args.lines.now in
    let done = c.loop-done.done in
    let end = c.batch_end-end.ensures in
    let coded : AreCoded dimensions (take (c.batch_end-end.result - done) (drop done lines)) c.as_slice.result.now =
    rw c.as_slice.ensures.value c.in_ok-pieces.ensures in
    record {
      within = end.1;
      codes = subst (λ (f : List Fact). AreCodesOf dimensions f c.append_all.new.columns.places)
          (batch_facts lines done _ (omega (arith, end.0)))
          (c.in_ok-append_all.ensures dimensions _ _ c.loop-done.invariant.codes coded);
    }

pub returns : goal.returns
returns g c =
    subst (λ (f : List Fact). AreCodesOf c.args.index.now.dimensions f c.loop-done.columns.places)
    (ap facts_of (take_all c.loop-done.done c.args.lines.now (omega (arith, c.loop-done-test.false))))
    c.loop-done.invariant.codes
