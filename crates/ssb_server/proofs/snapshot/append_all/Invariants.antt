use Rattle.std.proofs.Common.{◌≡◌, ◌++◌}
use Rattle.ssb_server.proofs.snapshot.append_all.Given as goal

abbrev pub invariant-loop-commit : goal.invariant-loop-commit
invariant-loop-commit g l = l.writer ≡ record l.initial.writer { pending = l.initial.writer.pending ++ l.yielded }
