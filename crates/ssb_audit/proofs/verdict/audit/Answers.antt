use Rattle.std.proofs.Common.{◌≡◌}
use Rattle.std.specs.Prelude.{Option, None, Result, Ok, Err, OnOk}
use Rattle.ssb_audit.specs.Traces.{Tells, first_from, commit_fault, answer_fault}
use Rattle.ssb_audit.specs.declared.fault.AuditFault.{AuditFault}
use Rattle.ssb_audit.proofs.LegalLaws.{none_both, no_fault_is_legal}
use Rattle.ssb_audit.proofs.verdict.audit.Goals as goal

where_none : (r : Result Unit AuditFault) (fault : Option AuditFault) (P : Type 0) → Tells r fault → (fault ≡ None → P)
    → OnOk r P
where_none (Ok done) fault P tells follows = follows tells
where_none (Err e) fault P tells follows = tt

pub returns-clause-legal : goal.returns-clause-legal
returns-clause-legal g c =
    let base = c.args.base.value in
    let trace = c.args.trace.now in
    let of_commits : first_from (commit_fault base trace.commits) 0 trace.commits ≡ None =
    rw (c.in_ok-try_clone.ensures, c.as_slice-commits.ensures) at c.in_ok-check_commits.ensures.fault in
    let of_answers : Tells c.check_answers.result (first_from (answer_fault base trace.commits trace.answers) 0
    trace.answers) =
    rw (c.as_slice-commits.ensures, c.as_slice.ensures) at c.check_answers.ensures in
    where_none c.check_answers.result _ _ of_answers (λ none. (no_fault_is_legal base trace).0
    (none_both _ _ of_commits none))
