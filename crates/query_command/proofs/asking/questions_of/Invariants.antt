use Rattle.std.proofs.Common.{◌≡◌, flat_map, take}
use Rattle.query_command.specs.ReportsAsked.{questions_in}
use Rattle.query_command.proofs.asking.questions_of.Given as goal

abbrev pub invariant-loop-one : goal.invariant-loop-one
invariant-loop-one l = l.questions.items ≡ flat_map questions_in (take l.one-index l.asked)
