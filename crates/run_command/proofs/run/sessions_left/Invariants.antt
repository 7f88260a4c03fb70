use Rattle.std.proofs.Common.{◌≡◌, map, flat_map}
use Rattle.run_command.proofs.run.sessions_left.Given as goal

abbrev pub invariant-loop-session : goal.invariant-loop-session
invariant-loop-session l = record {
  reports : map (λ report. report.items) l.reports.items ≡ map (λ session. session.report) l.yielded;
  told : l.told.items ≡ flat_map (λ session. session.told) l.yielded;
}
