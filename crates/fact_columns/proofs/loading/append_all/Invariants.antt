use Rattle.std.proofs.Common.{◌++◌, List}
use Rattle.ssb_base.specs.Base.{Dimensions}
use Rattle.ssb_schema.specs.declared.fact.Fact.{Fact}
use Rattle.ssb_schema.specs.declared.line.LineFields.{LineFields}
use Rattle.fact_columns.specs.Coded.{AreCoded, AreCodesOf}
use Rattle.fact_columns.proofs.CodingLaws.{facts_until}
use Rattle.fact_columns.proofs.loading.append_all.Given as goal

abbrev pub invariant-loop-piece : goal.invariant-loop-piece
invariant-loop-piece l = (dimensions : Dimensions) (before : List Fact) (lines : List LineFields)
    → AreCodesOf dimensions before l.initial.columns.places → (coded : AreCoded dimensions lines l.pieces)
    → AreCodesOf dimensions (before ++ facts_until l.piece-index coded.pieces) l.columns.places
