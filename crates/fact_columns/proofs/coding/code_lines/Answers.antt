use Rattle.std.proofs.Common.{◌≡◌, ◌++◌, [], ◌∷◌, List, subst, ap, rules}
use Rattle.std.proofs.lemmas.List.{take_all}
use Rattle.ssb_schema.specs.declared.fact.Fact.{Fact}
use Rattle.ssb_schema.specs.Facts.{facts_of}
use Rattle.fact_columns.specs.Coded.{AreCodesOf}
use Rattle.fact_columns.proofs.CodingLaws.{codes_more}
use Rattle.fact_columns.proofs.coding.code_lines.Goals as goal

pub loop-line-preserved : goal.loop-line-preserved
loop-line-preserved c = λ before codes.
    let longer : c.push.new.self.items ≡ c.loop-line.fresh.items ++ c.in_ok-coded.field-0 ∷ [] = search rules in
    codes_more c.args.index.now.dimensions before c.args.lines.now c.loop-line.line-index c.line-item.result
    c.loop-line.fresh.items c.push.new.self.items c.in_ok-coded.field-0
    c.loop-line-test.true c.line-item.is longer (c.loop-line.invariant before codes) c.in_ok-coded.ensures

pub returns : goal.returns
returns c = λ before codes.
    subst (λ (f : List Fact). AreCodesOf c.args.index.now.dimensions (before ++ f) c.loop-line.fresh.items)
    (ap facts_of (take_all c.loop-line.line-index c.args.lines.now c.loop-line-test.false))
    (c.loop-line.invariant before codes)
