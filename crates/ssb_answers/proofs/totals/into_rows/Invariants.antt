use Rattle.std.proofs.Common.{◌≡◌, map}
use Rattle.ssb_answers.specs.Totals.{row_from}
use Rattle.ssb_answers.proofs.totals.into_rows.Given as goal

abbrev pub invariant-loop-groups : goal.invariant-loop-groups
invariant-loop-groups l = l.rows.items ≡ map row_from l.yielded
