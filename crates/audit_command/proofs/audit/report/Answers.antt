use Rattle.std.proofs.Common.{◌≡◌, Err, inr, rules}
use Rattle.ssb_files.proofs.ResultLaws.{on_ok_from, on_err_from}
use Rattle.audit_command.proofs.audit.report.Goals as goal

pub returns-in_err-trace-clause-refused : goal.returns-in_err-trace-clause-refused
returns-in_err-trace-clause-refused g c =
    let is : c.from_residual.result ≡ Err c.in_err-trace.field-0.0 = search rules in
    rw is c.in_err-trace.ensures.refused

pub returns-in_err-trace-clause-against : goal.returns-in_err-trace-clause-against
returns-in_err-trace-clause-against g c =
    let is : c.from_residual.result ≡ Err c.in_err-trace.field-0.0 = search rules in
    rw is c.in_err-trace.ensures.against

pub returns-clause-legal : goal.returns-clause-legal
returns-clause-legal g c =
    on_ok_from c.write_verdict.result _ _ _ c.write_verdict.ensures.written
    (λ written bytes known. record {
      trace = c.in_ok-trace.trace;
      legal = c.in_ok-trace.ensures.legal bytes known;
      appends = written;
    })

pub returns-clause-part : goal.returns-clause-part
returns-clause-part g c =
    on_err_from c.write_verdict.result _ _ _ c.write_verdict.ensures.written
    (λ written. inr (λ bytes known. record {
      trace = c.in_ok-trace.trace;
      legal = c.in_ok-trace.ensures.legal bytes known;
      appends = written;
    }))
