use Rattle.std.proofs.Common.{◌≡◌, true, nat_eq, Err, inl, inr, ⊎_elim, rules}
use Rattle.std.specs.List.{starts_with}
use Rattle.ssb_journal.specs.Heads.{title}
use Rattle.ssb_journal.proofs.head.check_head.Goals as goal

pub check_lines-requires : goal.check_lines-requires
check_lines-requires c = rw c.in-Some.is at c.of.ensures

pub returns-in_err-check_lines-clause-fault : goal.returns-in_err-check_lines-clause-fault
returns-in_err-check_lines-clause-fault c =
    let is : c.from_residual.result ≡ Err c.in_err-check_lines.field-0.0 = search rules in
    let begins : starts_with nat_eq c.args.text.now (title c.in-Some.form) ≡ true = rw c.in-Some.is at c.of.ensures in
    rw is (⊎_elim (λ memory. inl memory) (λ fault. inr (inr (c.in-Some.form, begins, fault)))
    c.in_err-check_lines.ensures.fault)
