use Rattle.std.proofs.Common.{take}
use Rattle.std.specs.List.{flat_map}
use Rattle.ssb_schema.specs.Facts.{facts_of}
use Rattle.row_store.specs.Lines.{added_by}
use Rattle.fact_columns.specs.Coded.{AreCodesOf}
use Rattle.fact_columns.proofs.coding.coded_actions.Given as goal

abbrev pub invariant-loop-action : goal.invariant-loop-action
invariant-loop-action l = AreCodesOf l.index.dimensions (facts_of (flat_map added_by (take l.action-index l.actions)))
    l.fresh.items
