use Rattle.std.proofs.Common.{◌≡◌, map, take}
use Rattle.ssb_questions.specs.Clause.{kind_in}
use Rattle.ssb_trace.proofs.rows.kinds_in.Given as goal

-- the kinds so far
abbrev pub invariant-loop-column : goal.invariant-loop-column
invariant-loop-column l = l.kinds.items ≡ map kind_in (take l.column-index l.columns)
