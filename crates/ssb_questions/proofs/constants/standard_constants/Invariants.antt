use Rattle.std.proofs.Common.{◌≡◌, map, take}
use Rattle.ssb_questions.specs.Constant.{constant_value}
use Rattle.ssb_questions.proofs.constants.standard_constants.Given as goal

abbrev pub invariant-loop-constant : goal.invariant-loop-constant
invariant-loop-constant l = l.constants.items ≡ map constant_value (take l.constant-index l.constant-items)
