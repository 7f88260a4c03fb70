use Rattle.std.proofs.Common.{◌++◌, List, take}
use Rattle.ssb_schema.specs.declared.fact.Fact.{Fact}
use Rattle.ssb_schema.specs.Facts.{facts_of}
use Rattle.fact_columns.specs.Coded.{AreCodesOf}
use Rattle.fact_columns.proofs.coding.code_lines.Given as goal

abbrev pub invariant-loop-line : goal.invariant-loop-line
invariant-loop-line l = (before : List Fact) → AreCodesOf l.index.dimensions before l.initial.fresh.items
    → AreCodesOf l.index.dimensions (before ++ facts_of (take l.line-index l.lines)) l.fresh.items
