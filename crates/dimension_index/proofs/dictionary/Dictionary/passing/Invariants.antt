use Rattle.std.proofs.Common.{◌≡◌, map, take}
use Rattle.ssb_questions.specs.Cond.{holds}
use Rattle.dimension_index.proofs.dictionary.Dictionary.passing.Given as goal

abbrev pub invariant-loop-word : goal.invariant-loop-word
invariant-loop-word l = l.passes.items ≡ map (holds l.cond) (take l.word-index l.word-items)
