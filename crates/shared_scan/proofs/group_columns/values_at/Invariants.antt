use Rattle.std.proofs.Common.{◌≡◌, map, take, get_or}
use Rattle.ssb_questions.specs.declared.value.Value.TheVariants.{Number}
use Rattle.shared_scan.proofs.group_columns.values_at.Given as goal

abbrev pub invariant-loop-code : goal.invariant-loop-code
invariant-loop-code l = l.values.items ≡ map (λ code. get_or l.dictionary code (Number 0)) (take l.code-index l.codes)
