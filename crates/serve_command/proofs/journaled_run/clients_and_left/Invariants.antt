use Rattle.std.proofs.Common.{◌≡◌, map}
use Rattle.serve_command.proofs.journaled_run.clients_and_left.Given as goal

abbrev pub invariant-loop-one : goal.invariant-loop-one
invariant-loop-one g l = record {
  clients : l.clients.items ≡ map (λ one. one.client) l.yielded;
  left : l.all_left.items ≡ map (λ one. one.left) l.yielded;
}
