use Rattle.std.proofs.Common.{◌≡◌, take, true}
use Rattle.std.specs.Prelude.{All}
use Rattle.serve_command.proofs.runs.all_took.Given as goal

-- each so far took them
abbrev pub invariant-loop-left : goal.invariant-loop-left
invariant-loop-left g l = All (λ left. g.S.Speaker.took left ≡ true) (take l.left-index l.all_left)
