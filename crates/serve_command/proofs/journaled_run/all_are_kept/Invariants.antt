use Rattle.std.proofs.Common.{◌≤◌, take}
use Rattle.std.specs.Prelude.{All}
use Rattle.serve_command.proofs.journaled_run.all_are_kept.Given as goal

-- none so far was told of more
abbrev pub invariant-loop-one : goal.invariant-loop-one
invariant-loop-one g l = All (λ one. g.S.Speaker.told one.left ≤ l.count) (take l.one-index l.spoken)
