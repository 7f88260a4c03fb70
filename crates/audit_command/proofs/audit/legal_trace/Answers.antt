use Rattle.std.proofs.Common.{◌≡◌, Err, List, Some, rules, ℕ}
use Rattle.audit_command.specs.Audited.{SpeaksAgainst}
use Rattle.audit_command.specs.Status.{auditing_status}
use Rattle.audit_command.proofs.audit.legal_trace.Goals as goal

pub returns-in_err-trace-clause-refused : goal.returns-in_err-trace-clause-refused
returns-in_err-trace-clause-refused g c =
    let is : c.from_residual.result ≡ Err c.in_err-trace.field-0.0 = search rules in
    rw is c.in_err-trace.ensures.refused

pub returns-in_err-check-clause-against : goal.returns-in_err-check-clause-against
returns-in_err-check-clause-against g c =
    let is : c.from_residual-in_err-check.result ≡ Err c.in_err-check.field-0.0 = search rules in
    let here : auditing_status c.in_err-check.field-0.0 ≡ 3 → (bytes : List ℕ)
    → g.I.Read.remaining c.args.source ≡ Some bytes → SpeaksAgainst c.args.base bytes
    = λ status bytes known. record {
      trace = c.in_ok-trace.trace;
      spelled = c.in_ok-trace.ensures.trace bytes known;
      faulty = c.in_err-check.ensures.against status;
    } in
    rw is here

pub returns-clause-legal : goal.returns-clause-legal
returns-clause-legal g c = λ bytes known. record {
  spelled = c.in_ok-trace.ensures.trace bytes known;
  legal = c.in_ok-check.ensures.legal;
}
