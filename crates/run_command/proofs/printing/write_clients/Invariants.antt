use Rattle.std.proofs.Common.{map, take}
use Rattle.std.specs.Io.KnownBytes.{Appends}
use Rattle.run_command.specs.Served.{clients_text}
use Rattle.run_command.proofs.printing.write_clients.Given as goal

abbrev pub invariant-loop-before : goal.invariant-loop-before
invariant-loop-before g l =
    Appends (g.W.Write.contents l.fn.out) (g.W.Write.contents l.out)
    (clients_text 1 (map (λ report. report.items) (take l.before l.reports)))
