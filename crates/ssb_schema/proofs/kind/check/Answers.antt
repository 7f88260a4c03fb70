use Rattle.std.proofs.Common.{◌≡◌, ◌∙◌, ◌+◌, length, sym, ap}
use Rattle.ssb_schema.proofs.CheckLaws.{first_fault-drop, first_fault_ends}
use Rattle.ssb_schema.proofs.kind.check.Goals as goal

pub returns-in-Some : goal.returns-in-Some
returns-in-Some c =
    let same : length c.args.cells.now ≡ length c.kinds-kinds.result.now = c.requires
    ∙ sym (ap length c.kinds-kinds.ensures) in
    let next = first_fault-drop c.args.table c.loop-i.i c.kinds-kinds.result.now c.args.cells.now _ _
    c.cell_fault.result c.loop-i-test.true same c.cell_fault.ensures in
    sym (rw c.in-Some.is at next) ∙ c.loop-i.invariant

pub loop-i-preserved : goal.loop-i-preserved
loop-i-preserved c =
    let same : length c.args.cells.now ≡ length c.kinds-kinds.result.now = c.requires
    ∙ sym (ap length c.kinds-kinds.ensures) in
    let next = first_fault-drop c.args.table c.loop-i.i c.kinds-kinds.result.now c.args.cells.now _ _
    c.cell_fault.result c.loop-i-test.true same c.cell_fault.ensures in
    sym (rw c.in_default.is at next) ∙ c.loop-i.invariant

pub returns : goal.returns
returns c = sym
    (first_fault_ends c.args.table (c.loop-i.i + 1) c.loop-i.i c.kinds-kinds.result.now _ c.loop-i-test.false)
    ∙ c.loop-i.invariant
