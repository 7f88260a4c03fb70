-- The line's combination is left where its numbers lie in the ranges and each of its rows passes.
use Rattle.std.proofs.Common.{sym}
use Rattle.ssb_answers.proofs.PassingLaws.{none_outside, none_without_customer, none_without_supplier}
use Rattle.ssb_answers.proofs.PassingLaws.{none_without_part, none_without_date, one_left}
use Rattle.ssb_answers.proofs.joined.passing.Goals as goal

pub returns-then-not-is_in_ranges-clause-combination : goal.returns-then-not-is_in_ranges-clause-combination
returns-then-not-is_in_ranges-clause-combination c = none_outside c.args.plan.now c.args.base.now.dimensions c.args.fact
    (sym c.if-not-is_in_ranges.ensures)

pub returns-in_err-customer-clause-combination : goal.returns-in_err-customer-clause-combination
returns-in_err-customer-clause-combination c = rw c.from_residual.ensures
    (none_without_customer c.args.plan.now c.args.base.now.dimensions c.args.fact
    (simp (c.as_slice.ensures, c.customers.ensures) at c.in_err-customer.ensures))

pub returns-in_err-supplier-clause-combination : goal.returns-in_err-supplier-clause-combination
returns-in_err-supplier-clause-combination c = rw c.from_residual-in_err-supplier.ensures
    (none_without_supplier c.args.plan.now c.args.base.now.dimensions c.args.fact
    (simp (c.as_slice-2.ensures, c.suppliers.ensures) at c.in_err-supplier.ensures))

pub returns-in_err-part-clause-combination : goal.returns-in_err-part-clause-combination
returns-in_err-part-clause-combination c = rw c.from_residual-in_err-part.ensures
    (none_without_part c.args.plan.now c.args.base.now.dimensions c.args.fact
    (simp (c.as_slice-3.ensures, c.parts.ensures) at c.in_err-part.ensures))

pub returns-in_err-date-clause-combination : goal.returns-in_err-date-clause-combination
returns-in_err-date-clause-combination c = rw c.from_residual-in_err-date.ensures
    (none_without_date c.args.plan.now c.args.base.now.dimensions c.args.fact
    (simp (c.as_slice-4.ensures, c.dates.ensures) at c.in_err-date.ensures))

pub returns-clause-combination : goal.returns-clause-combination
returns-clause-combination c =
    one_left c.args.plan.now c.args.base.now.dimensions c.args.fact c.in_ok-customer.customer.now
    c.in_ok-supplier.supplier.now c.in_ok-part.part.now c.in_ok-date.date.now (sym c.if-not-is_in_ranges.ensures)
    (simp (c.as_slice.ensures, c.customers.ensures) at c.in_ok-customer.ensures)
    (simp (c.as_slice-2.ensures, c.suppliers.ensures) at c.in_ok-supplier.ensures)
    (simp (c.as_slice-3.ensures, c.parts.ensures) at c.in_ok-part.ensures)
    (simp (c.as_slice-4.ensures, c.dates.ensures) at c.in_ok-date.ensures)
